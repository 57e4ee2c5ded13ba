-- The grammar by places in a line: what the code looks at from a place on. That both say the same is proved (proofs/Scan.antt
-- and proofs/Lines.antt).
use Rattle.std.specs.Prelude.{List, [], ◌∷◌, map, Bool, not, ℕ, suc, ◌+◌, ◌-◌, length, take, drop, eqb, Option, Some, option_and_then, option_map}
use Rattle.text.specs.Ascii.{ascii, same}
use Rattle.grammar.specs.declared.Part.{Part}
use Rattle.grammar.specs.declared.Switch.{Switch}
use Rattle.grammar.specs.declared.Switches.{Switches}
use Rattle.grammar.specs.Grammar.{choose, blank, capital, labelled}

-- how many bytes pass a test before the first that does not
abbrev pub leading : (ℕ → Bool) → List ℕ → ℕ
leading f [] = 0
leading f (c ∷ cs) = choose (f c) (suc (leading f cs)) 0

-- a byte of a part
abbrev pub solid : ℕ → Bool
solid c = not (blank c)

-- where the next part from a place on starts and ends
abbrev pub start_of : List ℕ → ℕ → ℕ
start_of line at = at + leading blank (drop at line)

abbrev pub solid_end : List ℕ → ℕ → ℕ
solid_end line at = at + leading solid (drop at line)

abbrev pub stop_of : List ℕ → ℕ → ℕ
stop_of line at = solid_end line (start_of line at)

abbrev pub part_of : List ℕ → ℕ → Part
part_of line at = record { «from» = start_of line at; to = stop_of line at }

-- that part, in capitals; empty where there is none
unfoldable pub part_at : List ℕ → ℕ → List ℕ
part_at line at = map capital (take (stop_of line at - start_of line at) (drop (start_of line at) line))

-- the name in a column: what stands before its first blank
abbrev pub name_in : List ℕ → List ℕ
name_in column = take (solid_end column 0) column

-- the next part as a number, and where it ends
abbrev pub taken_by : Option ℕ → ℕ → Option (ℕ × ℕ)
taken_by found to = option_map (λ n. (n, to)) found

abbrev pub taken_at : (List ℕ → Option ℕ) → List ℕ → ℕ → Option (ℕ × ℕ)
taken_at f line at = taken_by (f (part_at line at)) (stop_of line at)

abbrev pub then : {A : Type 0} → Option (ℕ × ℕ) → (ℕ → ℕ → Option A) → Option A
then taken go = option_and_then (λ t. go t.0 t.1) taken

-- three numbers, each after its name, and where the last one ends
unfoldable pub three_at : List ℕ → ℕ → List ℕ → List ℕ → List ℕ → Option (ℕ × ℕ × ℕ × ℕ)
three_at line at first second third =
    then (taken_at (labelled first) line at) λ x to₁.
    then (taken_at (labelled second) line to₁) λ y to₂.
    then (taken_at (labelled third) line to₂) λ z to₃.
    Some (x, y, z, to₃)

-- a switch: 1 if the next part is its name, else 0 and the part is still to come
abbrev pub switch_by : Bool → ℕ → ℕ → Switch
switch_by on to at = record { on = choose on 1 0; to = choose on to at }

unfoldable pub switch_at : List ℕ → ℕ → List ℕ → Switch
switch_at line at name = switch_by (same (part_at line at) name) (stop_of line at) at

-- the five switches, one after another
unfoldable pub switches_at : List ℕ → ℕ → Switches
switches_at line at =
    let write : Switch = switch_at line at (ascii "WRITE") in
    let select : Switch = switch_at line write.to (ascii "MACRO-SELECT") in
    let carry : Switch = switch_at line select.to (ascii "MACRO-CARRY") in
    let link : Switch = switch_at line carry.to (ascii "MACRO-LINK") in
    let borrow : Switch = switch_at line link.to (ascii "BORROW") in
    record {
      write = write.on;
      select = select.on;
      carry = carry.on;
      link = link.on;
      borrow = borrow.on;
      to = borrow.to;
    }

-- no part is left from a place on: all bytes there are blank
abbrev pub all_blank : List ℕ → Bool
all_blank l = eqb (leading blank l) (length l)

unfoldable pub no_more : List ℕ → ℕ → Bool
no_more line at = all_blank (drop at line)
