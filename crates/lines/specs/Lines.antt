-- What stands in a line: hex numbers, highest digit first, and lists of them, one beside the other; and the tally.
use Rattle.std.specs.Prelude.{◌≡◌, List, [], ◌∷◌, ◌++◌, Bool, true, false, ℕ, zero, suc, ◌+◌, ◌*◌, ◌/◌, ◌%◌, min, ◌≤◌, length, take, drop, eqb, ◌==◌, not, fold, take_while, All}
use Rattle.lines.specs.declared.Tally.{Tally}

-- a number with one digit more, in upper or lower case; of more than eight digits the last eight count
abbrev pub joined_of : ℕ → ℕ → ℕ
joined_of n d = n % 268435456 * 16 + (d % 16 + d / 64 * 9) % 16

-- the number that digits are
abbrev pub number_of : List ℕ → ℕ
number_of = fold joined_of 0

-- the number of so many digits at a place
abbrev pub number_at : List ℕ → ℕ → ℕ → ℕ
number_at line at digits = number_of (take digits (drop at line))

abbrev pick : {A : Type 0} → Bool → A → A → A
pick true a b = a
pick false a b = b

-- how many characters of a list stand before its first `-`
abbrev pub filled_of : List ℕ → ℕ
filled_of list = length (take_while (λ c. not (c == 45)) list)

-- the first numbers of a list, of so many digits each, and as they are kept
abbrev pub list_as : {A : Type 0} → ℕ → (ℕ → A) → List ℕ → ℕ → List A
list_as digits kept list zero = []
list_as digits kept list (suc k) = list_as digits kept list k ++ (kept (number_at list (digits * k) digits) ∷ [])

-- the list's numbers, as many as fit, are the first r of what was read into; the others are as they were
abbrev pub TakenAs : {A : Type 0} → ℕ → (ℕ → A) → List ℕ → List A → ℕ → List A → Type 0
TakenAs digits kept list before r to =
    ((r ≤ length to) × (r ≡ length (take r to))) × (r ≡ min (filled_of list / digits) (length to)) × (take r to ≡ list_as digits kept list r) × (drop r to ≡ drop r before)

-- the same of numbers below a limit: bytes are of two digits and below 256, halves of four and below 65536, words of eight and below 4294967296
abbrev pub Taken : ℕ → ℕ → List ℕ → List ℕ → ℕ → List ℕ → Type 0
Taken digits limit = TakenAs digits (λ n. n % limit)

-- the tally after a case that was right, or missed
abbrev pub counted_of : Tally → Bool → Tally
counted_of t true = record { cases = t.cases + 1; missed = t.missed; first = t.first }
counted_of t false = record { cases = t.cases + 1; missed = t.missed + 1; first = pick (eqb t.missed 0) (t.cases + 1) t.first }

-- the tally of lines, in order, each with an answer that it may have
pub record Tallied (answers : List ℕ → Bool → Type 0) (tally : Tally) : Type 0 where
  pub lines : List (List ℕ × Bool)
  pub answered : All (λ c. answers c.0 c.1) lines
  pub counted : tally ≡ fold (λ t c. counted_of t c.1) (record { cases = 0; missed = 0; first = 0 }) lines
