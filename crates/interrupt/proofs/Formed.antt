-- A handler whose form is not refused is a handler of the form, and no register is named by both it and the main list.
use mathlib.Core.Path.{◌≡◌, refl, sym, ap, ◌∙◌, subst}
use mathlib.Core.List.{List, [], ◌∷◌, ◌++◌}
use mathlib.Core.Bool.{Bool, true, false, ◌||◌, or-true}
use Prim.Native.Nat.{ℕ, zero, suc, ◌+◌, ◌-◌, ◌≤◌, ◌<◌}
use native.Mathlib.Omega.{arith}
use native.Mathlib.Decide.{ℕ_discrete}
use borrow.Author.Tests.{eqb-true, eqb-false, eq-eqb, ne_eqb, ltb-false, not-false}
use lib.Bits.{bit_or}
use lib.Dec.{eqb}
use Rattle.reasons.specs.Reasons.{rows_by}
use Rattle.reasons.specs.Reasons.{good}
use Rattle.reasons.proofs.Rows.{None, good_none, none_at}
use Rattle.reasons.proofs.Rows.None.{none, more}
use Rattle.chip.specs.declared.Word.{Word}
use Rattle.packing.specs.Packing.{differ}
use Rattle.packing.specs.Registers.{only, is_in, common, sources_of, destination_of, names_of, names_all}
use Rattle.packing.proofs.Numbers.{or_left, or_right}
use Rattle.packing.proofs.Registers.{in_or, in_only, common-none, names-a, names-y}
use Rattle.sheet.specs.Sheet.{words_of, word_at, words_from, declared_of, executions_of, names_in, WordReady, Ready}
use Rattle.sheet.proofs.Positions.{All, words-add, all_words_lem, all-executions}
use Rattle.run.proofs.Laws.{word_larger}
use Rattle.handler.specs.Form.{saves_status, saves_q, saves, not_fixed, saving_status_fault, saving_q_fault, body_fault, loading_fault, giving_back_fault, fault_at, form_row, form_rows, form_of}
use Rattle.handler.specs.Overlap.{overlap_of}
use Rattle.handler.proofs.OverlapLaws.{good_apart}
use Rattle.interrupt.specs.Demand3.{Own}
use Rattle.interrupt.proofs.Owners.{Names, Fixed, Handler}

-- ---- what sheets name
in_words : (s : List ℕ) (k n j r : ℕ) → k ≤ j → j < k + n → is_in (names_of (word_at s j)) r ≡ true → is_in (names_all (words_from s k n)) r ≡ true
unfolding names_all words_from
in_words s k zero j r lo hi e = absurd (omega arith)
in_words s k (suc n) j r lo hi e =
    in_or (names_of (word_at s k)) (names_all (words_from s (k + 1) n)) r ∙ go (ℕ_discrete k j) (λ l. in_words s (k + 1) n j r l (omega arith) e)
  where
    go : Dec (k ≡ j) → (k + 1 ≤ j → is_in (names_all (words_from s (k + 1) n)) r ≡ true) → (is_in (names_of (word_at s k)) r || is_in (names_all (words_from s (k + 1) n)) r) ≡ true
    go (yes h) f = rw (h, e) refl
    go (no h) f = ap (λ (b : Bool). is_in (names_of (word_at s k)) r || b) (f (omega arith)) ∙ or-true (is_in (names_of (word_at s k)) r)

pub named_in : (s : List ℕ) (k r : ℕ) → k < words_of s → is_in (names_of (word_at s k)) r ≡ true → is_in (names_in s) r ≡ true
named_in s k r h e = in_words s 0 (words_of s) k r (omega arith) (omega arith) e

y-named : (s : List ℕ) (k : ℕ) → k < words_of s → (word_at s k).write ≡ 1 → is_in (names_in s) (word_at s k).y ≡ true
y-named s k h e = named_in s k (word_at s k).y h (names-y (word_at s k) (λ (z : (word_at s k).write ≡ 0). omega arith))

-- a word of a sheet that passed
pub ready_64 : (s : List ℕ) (n k : ℕ) → Ready s n → k < words_of s → WordReady 64 (word_at s k)
ready_64 s n k r i = word_larger (declared_of s) 64 (word_at s k) r.few (r.word k i)

pub all_named : (s : List ℕ) (n : ℕ) → Ready s n → All (Names (λ r. is_in (names_in s) r ≡ true)) (executions_of s)
all_named s n r = all-executions (Names (λ x. is_in (names_in s) x ≡ true)) s (λ k i. record { only = λ x e. named_in s k x i e; ready = ready_64 s n k r i })

-- ---- no register in common
pub shares_none : (main h : List ℕ) → overlap_of main h ≡ good → (r : ℕ) → is_in (names_in main) r ≡ true → is_in (names_in h) r ≡ true → ⊥
shares_none main h e r a b = common-none (names_in main) (names_in h) r (good_apart main h e) a b

-- ---- the clauses of the form
alike : (m n : ℕ) → differ m n ≡ false → m ≡ n
alike m n e = eqb-true m n (not-false (eqb m n) e)

first_three : (a b c d e f g : Bool) → (a || b || c || d || e || f || g) ≡ false → (a ≡ false) × (b ≡ false) × (c ≡ false)
first_three a b c d e f g x =
    let y : (a || b || c) ≡ false = or_left (a || b || c) d (or_left (a || b || c || d) e (or_left (a || b || c || d || e) f (or_left (a || b || c || d || e || f) g x))) in
    (or_left a b (or_left (a || b) c y), or_right a b (or_left (a || b) c y), or_right (a || b) c y)

fixed : (w : Word) (number stores : ℕ) → WordReady 64 w → not_fixed w number stores ≡ false → Fixed number stores w
unfolding not_fixed
fixed w number stores ready e =
    let t = first_three (differ w.opcode number) (differ w.code 0) (differ w.write stores) (differ w.select 0) (differ w.carry 0) (differ w.link 0) (differ w.borrow 0) e in
    record {
      opcode = alike w.opcode number t.0;
      code = alike w.code 0 t.1;
      write = alike w.write stores t.2;
      ready = ready;
    }

-- ---- the whole form
-- a list of six words or more, by its ends
by_ends : (h : List ℕ) (n : ℕ) → 6 ≤ n
    → words_from h 0 n ≡ word_at h 0 ∷ word_at h 1 ∷ word_at h 2 ∷ word_at h 3 ∷ (words_from h 4 (n - 6) ++ (word_at h (n - 2) ∷ word_at h (n - 1) ∷ []))
unfolding words_from
by_ends h n i =
    let e : n ≡ suc (suc (suc (suc (n - 6 + 2)))) = omega arith in
    let f : 4 + (n - 6) ≡ n - 2 = omega arith in
    let g : n - 2 + 1 ≡ n - 1 = omega arith in
    ap (words_from h 0) e
    ∙ ap (λ (l : List Word). word_at h 0 ∷ word_at h 1 ∷ word_at h 2 ∷ word_at h 3 ∷ l)
    (words-add h 4 (n - 6) 2 ∙ ap (λ (k : ℕ). words_from h 4 (n - 6) ++ (word_at h k ∷ word_at h (k + 1) ∷ [])) f
    ∙ ap (λ (k : ℕ). words_from h 4 (n - 6) ++ (word_at h (n - 2) ∷ word_at h k ∷ [])) g)

module _ (h : List ℕ) (ready : (k : ℕ) → k < words_of h → WordReady 64 (word_at h k)) where
  abbrev n : ℕ
  n = words_of h

  abbrev s : ℕ
  s = saves_status h

  abbrev q : ℕ
  q = saves_q h

  abbrev saved : ℕ
  saved = saves s q

  -- s and q are saved
  s-saved : is_in saved s ≡ true
  s-saved = in_or (only s) (only q) s ∙ ap (λ (b : Bool). b || is_in (only q) s) (in_only s)

  q-saved : is_in saved q ≡ true
  q-saved = in_or (only s) (only q) q ∙ ap (λ (b : Bool). is_in (only s) q || b) (in_only q) ∙ or-true (is_in (only s) q)

  names-own : (k : ℕ) → k < n → body_fault saved (word_at h k) ≡ false → Names (Own h) (word_at h k)
  unfolding body_fault
  names-own k i e = record {
    only = λ r m. record {
      named = named_in h k r i m;
      not-s = λ d. common-none (names_of (word_at h k)) saved r e m (subst (λ (x : ℕ). is_in saved x ≡ true) (sym d) s-saved);
      not-q = λ d. common-none (names_of (word_at h k)) saved r e m (subst (λ (x : ℕ). is_in saved x ≡ true) (sym d) q-saved);
    };
    ready = ready k i;
  }

  -- what each row that does not hold gives
  module _ (six : 6 ≤ n) (rows : None (rows_by (form_row h n s q) 0 n)) where
    no_fault : (k : ℕ) → k < n → fault_at n s q k (word_at h k) ≡ false
    no_fault k i = go (none_at (form_row h n s q) 0 n rows k (omega arith) (omega arith))
      where
        go : None (form_row h n s q k) → fault_at n s q k (word_at h k) ≡ false
        go (more x none) = x

    f₀ : saving_status_fault saved (word_at h 0) ≡ false
    unfolding fault_at
    f₀ = no_fault 0 (omega arith)

    f₁ : saving_q_fault saved s q (word_at h 1) ≡ false
    unfolding fault_at
    f₁ = no_fault 1 (omega arith)

    f₂ : loading_fault 0x06 saved (word_at h 2) ≡ false
    unfolding fault_at
    f₂ = no_fault 2 (omega arith)

    f₃ : loading_fault 0x1c saved (word_at h 3) ≡ false
    unfolding fault_at
    f₃ = no_fault 3 (omega arith)

    -- past word 3
    later : (k : ℕ) → 4 ≤ k → (eqb k 0 ≡ false) × (eqb k 1 ≡ false) × (eqb k 2 ≡ false) × (eqb k 3 ≡ false)
    later k i =
        (ne_eqb k 0 (λ (e : k ≡ 0). omega arith), ne_eqb k 1 (λ (e : k ≡ 1). omega arith), ne_eqb k 2 (λ (e : k ≡ 2). omega arith), ne_eqb k 3 (λ (e : k ≡ 3). omega arith))

    g₁ : giving_back_fault 0x06 q saved (word_at h (n - 2)) ≡ false
    unfolding fault_at
    g₁ =
        let l = later (n - 2) (omega arith) in
        let e : eqb (n - (n - 2)) 2 ≡ true = eq-eqb (n - (n - 2)) 2 (omega arith) in
        rw (l.0, l.1, l.2, l.3, e) at (no_fault (n - 2) (omega arith))

    g₂ : giving_back_fault 0x1c s saved (word_at h (n - 1)) ≡ false
    unfolding fault_at
    g₂ =
        let l = later (n - 1) (omega arith) in
        let d : eqb (n - (n - 1)) 2 ≡ false = ne_eqb (n - (n - 1)) 2 (λ (e : n - (n - 1) ≡ 2). omega arith) in
        let e : eqb (n - (n - 1)) 1 ≡ true = eq-eqb (n - (n - 1)) 1 (omega arith) in
        rw (l.0, l.1, l.2, l.3, d, e) at (no_fault (n - 1) (omega arith))

    body : (k : ℕ) → 4 ≤ k → k < 4 + (n - 6) → body_fault saved (word_at h k) ≡ false
    unfolding fault_at
    body k lo hi =
        let l = later k lo in
        let d : eqb (n - k) 2 ≡ false = ne_eqb (n - k) 2 (λ (e : n - k ≡ 2). omega arith) in
        let e : eqb (n - k) 1 ≡ false = ne_eqb (n - k) 1 (λ (e : n - k ≡ 1). omega arith) in
        rw (l.0, l.1, l.2, l.3, d, e) at (no_fault k (omega arith))

    saving_status : Fixed 0x04 1 (word_at h 0)
    unfolding saving_status_fault
    saving_status = fixed (word_at h 0) 0x04 1 (ready 0 (omega arith)) (or_left (not_fixed (word_at h 0) 0x04 1) (common (sources_of (word_at h 0)) saved) f₀)

    saving_q : Fixed 0x05 1 (word_at h 1)
    unfolding saving_q_fault
    saving_q =
        let w : Word = word_at h 1 in
        fixed w 0x05 1 (ready 1 (omega arith))
        (or_left (not_fixed w 0x05 1) (common (sources_of w) saved) (or_left (not_fixed w 0x05 1 || common (sources_of w) saved) (eqb s q) f₁))

    -- words 0 and 1 write, so s and q are named
    both-named : (is_in (names_in h) s ≡ true) × (is_in (names_in h) q ≡ true)
    both-named = (y-named h 0 (omega arith) saving_status.write, y-named h 1 (omega arith) saving_q.write)

    built : Handler (Own h) s q (executions_of h)
    unfolding executions_of saving_q_fault loading_fault giving_back_fault
    built =
        let w₁ : Word = word_at h 1 in
        let w₂ : Word = word_at h 2 in
        let w₃ : Word = word_at h 3 in
        let v₁ : Word = word_at h (n - 2) in
        let v₂ : Word = word_at h (n - 1) in
        let d₁ = or_left (not_fixed v₁ 0x06 0 || differ v₁.a q) (common (bit_or (only v₁.b) (destination_of v₁)) saved) g₁ in
        let d₂ = or_left (not_fixed v₂ 0x1c 0 || differ v₂.a s) (common (bit_or (only v₂.b) (destination_of v₂)) saved) g₂ in
        record {
          w0 = word_at h 0;
          w1 = w₁;
          w2 = w₂;
          w3 = w₃;
          body = words_from h 4 (n - 6);
          v1 = v₁;
          v2 = v₂;
          shape = by_ends h n six;
          apart = eqb-false s q (or_right (not_fixed w₁ 0x05 1 || common (sources_of w₁) saved) (eqb s q) f₁);
          s-out = λ o. o.not-s refl;
          q-out = λ o. o.not-q refl;
          saves-status = saving_status;
          to_s = refl;
          saves-q = saving_q;
          to_q = refl;
          loads_q = fixed w₂ 0x06 0 (ready 2 (omega arith)) (or_left (not_fixed w₂ 0x06 0) (body_fault saved w₂) f₂);
          loads_status = fixed w₃ 0x1c 0 (ready 3 (omega arith)) (or_left (not_fixed w₃ 0x1c 0) (body_fault saved w₃) f₃);
          w2_own = (names-own 2 (omega arith) (or_right (not_fixed w₂ 0x06 0) (body_fault saved w₂) f₂)).only w₂.a (names-a w₂);
          w3_own = (names-own 3 (omega arith) (or_right (not_fixed w₃ 0x1c 0) (body_fault saved w₃) f₃)).only w₃.a (names-a w₃);
          body_own = all_words_lem (Names (Own h)) h 4 (n - 6) (λ k lo hi. names-own k (omega arith) (body k lo hi));
          gives-q = fixed v₁ 0x06 0 (ready (n - 2) (omega arith)) (or_left (not_fixed v₁ 0x06 0) (differ v₁.a q) d₁);
          from-q = alike v₁.a q (or_right (not_fixed v₁ 0x06 0) (differ v₁.a q) d₁);
          gives-status = fixed v₂ 0x1c 0 (ready (n - 1) (omega arith)) (or_left (not_fixed v₂ 0x1c 0) (differ v₂.a s) d₂);
          from-s = alike v₂.a s (or_right (not_fixed v₂ 0x1c 0) (differ v₂.a s) d₂);
        }

  pub long : form_of h ≡ good → 6 ≤ n
  unfolding form_of
  long e = go (good_none (form_rows h) e)
    where
      go : None (form_rows h) → 6 ≤ n
      go (more x t) = ltb-false n 6 x

  pub saves-named : form_of h ≡ good → (is_in (names_in h) s ≡ true) × (is_in (names_in h) q ≡ true)
  unfolding form_of
  saves-named e = go (good_none (form_rows h) e)
    where
      go : None (form_rows h) → (is_in (names_in h) s ≡ true) × (is_in (names_in h) q ≡ true)
      go (more x t) = both-named (ltb-false n 6 x) t

  pub is_handler : form_of h ≡ good → Handler (Own h) s q (executions_of h)
  unfolding form_of
  is_handler e = go (good_none (form_rows h) e)
    where
      go : None (form_rows h) → Handler (Own h) s q (executions_of h)
      go (more x t) = built (ltb-false n 6 x) t
