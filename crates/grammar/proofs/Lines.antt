-- The two kinds of line by places in it, and that those places are within it.
use mathlib.Core.Path.{◌≡◌, refl, ◌∙◌}
use mathlib.Core.List.{List, []}
use mathlib.Core.Bool.{Bool, true, false}
use Prim.Native.Nat.{ℕ, ◌≤◌}
use native.Mathlib.Omega.{arith}
use lib.ListN.{length, drop}
use Rattle.text.specs.Ascii.{ascii, same}
use Rattle.chip.specs.declared.Word.{Word}
use Rattle.grammar.specs.declared.Switches.{Switches}
use Rattle.grammar.specs.declared.Head.{Head}
use Rattle.std.specs.Prelude.{Option, Some, None, option_and_then, IfSome}
use Rattle.std.specs.Bool.{then_some}
use Rattle.grammar.specs.Grammar.{parts_of, labelled, opcode_of, taking, offered, head_by, head_of, line_of}
use Rattle.grammar.specs.Scan.{stop_of, part_at, taken_by, taken_at, then, three_at, switch_by, switch_at, switches_at, no_more}
use Rattle.grammar.proofs.Passing.{stop_within}
use Rattle.grammar.proofs.Names.{labelled-none}
use Rattle.grammar.proofs.Mnemonics.{no_part}
use Rattle.grammar.proofs.Scan.{taking-at, offered-at, closing_at}

-- ---- numbers, each after its name
module _ {A : Type 0} where
  -- what comes after a number
  then_same : (t : Option (ℕ × ℕ)) {f g : ℕ → ℕ → Option A} → ((n to : ℕ) → f n to ≡ g n to) → then t f ≡ then t g
  then_same (Some t) h = h t.0 t.1
  then_same None h = refl

  -- one number
  labelled-at : (name l : List ℕ) (i : ℕ) (go : ℕ → List (List ℕ) → Option A)
      → taking (labelled name) (parts_of (drop i l)) go ≡ then (taken_at (labelled name) l i) (λ n to. go n (parts_of (drop to l)))
  labelled-at name l i go = taking-at (labelled name) l i go (labelled-none name)

  -- what comes after three numbers
  abbrev pub then_three : Option (ℕ × ℕ × ℕ × ℕ) → (ℕ → ℕ → ℕ → ℕ → Option A) → Option A
  then_three taken go = option_and_then (λ t. go t.0 t.1 t.2 t.3) taken

  three-same : (t : Option (ℕ × ℕ × ℕ × ℕ)) {f g : ℕ → ℕ → ℕ → ℕ → Option A} → ((x y z to : ℕ) → f x y z to ≡ g x y z to) → then_three t f ≡ then_three t g
  three-same (Some t) h = h t.0 t.1 t.2 t.3
  three-same None h = refl

  -- what comes after the third comes after the first
  three-then : (t : Option (ℕ × ℕ)) (k : ℕ → ℕ → Option (ℕ × ℕ × ℕ × ℕ)) (go : ℕ → ℕ → ℕ → ℕ → Option A) → then t (λ n to. then_three (k n to) go) ≡ then_three (then t k) go
  three-then (Some t) k go = refl
  three-then None k go = refl

  -- three numbers
  three-at : (first second third l : List ℕ) (i : ℕ) (go : ℕ → ℕ → ℕ → List (List ℕ) → Option A)
      → (taking (labelled first) (parts_of (drop i l)) λ x ps₁.
      taking (labelled second) ps₁ λ y ps₂.
      taking (labelled third) ps₂ λ z ps₃.
      go x y z ps₃)
      ≡ then_three (three_at l i first second third) (λ x y z to. go x y z (parts_of (drop to l)))
  unfolding three_at
  three-at first second third l i go =
      labelled-at first l i _
      ∙ then_same (taken_at (labelled first) l i) (λ x to₁.
      labelled-at second l to₁ _
      ∙ then_same (taken_at (labelled second) l to₁) (λ y to₂.
      labelled-at third l to₂ _
      ∙ three-then (taken_at (labelled third) l to₂) (λ z to. Some (x, y, z, to)) _)
      ∙ three-then (taken_at (labelled second) l to₁) _ _)
      ∙ three-then (taken_at (labelled first) l i) _ _

-- ---- the first line
abbrev pub head_at : List ℕ → Option Head
head_at l =
    then (taken_at (labelled (ascii "VERSION=")) l 0) λ version to₁.
    then (taken_at (labelled (ascii "REGISTERS=")) l to₁) λ registers to₂.
    then_some (no_more l to₂) (head_by version registers)

pub head_at_lem : (l : List ℕ) → head_of (parts_of l) ≡ head_at l
unfolding head_of
head_at_lem l =
    labelled-at (ascii "VERSION=") l 0 _ ∙ then_same (taken_at (labelled (ascii "VERSION=")) l 0) λ version to₁.
    labelled-at (ascii "REGISTERS=") l to₁ _ ∙ then_same (taken_at (labelled (ascii "REGISTERS=")) l to₁) λ registers to₂.
    closing_at l to₂ (head_by version registers)

-- ---- a word's line
-- five switches
switches_at_lem : {A : Type 0} (l : List ℕ) (i : ℕ) (go : ℕ → ℕ → ℕ → ℕ → ℕ → List (List ℕ) → A)
    → (offered (ascii "WRITE") (parts_of (drop i l)) λ write ps₁.
    offered (ascii "MACRO-SELECT") ps₁ λ select ps₂.
    offered (ascii "MACRO-CARRY") ps₂ λ carry ps₃.
    offered (ascii "MACRO-LINK") ps₃ λ link ps₄.
    offered (ascii "BORROW") ps₄ λ borrow ps₅.
    go write select carry link borrow ps₅)
    ≡ go (switches_at l i).write (switches_at l i).select (switches_at l i).carry (switches_at l i).link (switches_at l i).borrow (parts_of (drop (switches_at l i).to l))
unfolding switches_at
switches_at_lem l i go =
    let write = switch_at l i (ascii "WRITE") in
    let select = switch_at l write.to (ascii "MACRO-SELECT") in
    let carry = switch_at l select.to (ascii "MACRO-CARRY") in
    let link = switch_at l carry.to (ascii "MACRO-LINK") in
    offered-at (ascii "WRITE") l i _ refl
    ∙ offered-at (ascii "MACRO-SELECT") l write.to _ refl
    ∙ offered-at (ascii "MACRO-CARRY") l select.to _ refl
    ∙ offered-at (ascii "MACRO-LINK") l carry.to _ refl
    ∙ offered-at (ascii "BORROW") l link.to _ refl

-- a word of its numbers and switches
abbrev pub word_by : ℕ → ℕ → ℕ → ℕ → ℕ → ℕ → ℕ → Switches → Word
word_by opcode code position width a b y s = record {
  opcode = opcode;
  code = code;
  position = position;
  width = width;
  a = a;
  b = b;
  y = y;
  write = s.write;
  select = s.select;
  carry = s.carry;
  link = s.link;
  borrow = s.borrow;
}

-- its numbers: byte code, position and width, then A, B and Y
abbrev pub kind_at : List ℕ → ℕ → Option (ℕ × ℕ × ℕ × ℕ)
kind_at l i = three_at l i (ascii "CODE=") (ascii "POSITION=") (ascii "WIDTH=")

abbrev pub registers_at : List ℕ → ℕ → Option (ℕ × ℕ × ℕ × ℕ)
registers_at l i = three_at l i (ascii "A=") (ascii "B=") (ascii "Y=")

abbrev pub line_at : List ℕ → Option Word
line_at l =
    then (taken_at opcode_of l 0) λ opcode to₁.
    then_three (kind_at l to₁) λ code position width to₂.
    then_three (registers_at l to₂) λ a b y to₃.
    then_some (no_more l (switches_at l to₃).to) (word_by opcode code position width a b y (switches_at l to₃))

pub line-at : (l : List ℕ) → line_of (parts_of l) ≡ line_at l
unfolding line_of
line-at l =
    taking-at opcode_of l 0 _ (no_part [] refl) ∙ then_same (taken_at opcode_of l 0) λ opcode to₁.
    three-at (ascii "CODE=") (ascii "POSITION=") (ascii "WIDTH=") l to₁ _ ∙ three-same (kind_at l to₁) λ code position width to₂.
    three-at (ascii "A=") (ascii "B=") (ascii "Y=") l to₂ _ ∙ three-same (registers_at l to₂) λ a b y to₃.
    switches_at_lem l to₃ _ ∙ closing_at l (switches_at l to₃).to _

-- ---- places within the line
-- where a number ends, and where three end
abbrev TakenWithin : ℕ → Option (ℕ × ℕ) → Type 0
TakenWithin n taken = IfSome taken (λ t. t.1 ≤ n)

abbrev ThreeWithin : ℕ → Option (ℕ × ℕ × ℕ × ℕ) → Type 0
ThreeWithin n taken = IfSome taken (λ t. t.3 ≤ n)

-- one number, and what comes after it
taken_within : (f : List ℕ → Option ℕ) (l : List ℕ) (i : ℕ) → i ≤ length l → TakenWithin (length l) (taken_at f l i)
taken_within f l i h = go (f (part_at l i)) (stop_within l i h)
  where
    go : (r : Option ℕ) → stop_of l i ≤ length l → TakenWithin (length l) (taken_by r (stop_of l i))
    go (Some n) s = s
    go None s = tt

then_within : (n : ℕ) (t : Option (ℕ × ℕ)) (k : ℕ → ℕ → Option (ℕ × ℕ × ℕ × ℕ)) → TakenWithin n t → ((x to : ℕ) → to ≤ n → ThreeWithin n (k x to)) → ThreeWithin n (then t k)
then_within n (Some t) k h g = g t.0 t.1 h
then_within n None k h g = tt

-- three numbers
three_within : (first second third l : List ℕ) (i : ℕ) → i ≤ length l → ThreeWithin (length l) (three_at l i first second third)
unfolding three_at
three_within first second third l i h =
    then_within (length l) (taken_at (labelled first) l i) _ (taken_within (labelled first) l i h) λ x to₁ h₁.
    then_within (length l) (taken_at (labelled second) l to₁) _ (taken_within (labelled second) l to₁ h₁) λ y to₂ h₂.
    then_within (length l) (taken_at (labelled third) l to₂) _ (taken_within (labelled third) l to₂ h₂) λ z to₃ h₃. h₃

-- as the code finds them
pub taken_ends : (f : List ℕ → Option ℕ) (l : List ℕ) (i : ℕ) {n to : ℕ} → i ≤ length l → Some (n, to) ≡ taken_at f l i → to ≤ length l
taken_ends f l i h e = rw (← e) at (taken_within f l i h)

pub three_ends : (first second third l : List ℕ) (i : ℕ) {x y z to : ℕ} → i ≤ length l
    → Some (x, y, z, to) ≡ three_at l i first second third → to ≤ length l
three_ends first second third l i h e = rw (← e) at (three_within first second third l i h)

-- a word's line as the code reads it: the mnemonic, byte code with position and width, A with B and Y
module _ (l : List ℕ) {opcode to₁ : ℕ} (e₁ : Some (opcode, to₁) ≡ taken_at opcode_of l 0) where
  pub mnemonic_ends : to₁ ≤ length l
  mnemonic_ends = taken_ends opcode_of l 0 (omega arith) e₁

  module _ {code position width to₂ : ℕ} (e₂ : Some (code, position, width, to₂) ≡ kind_at l to₁) where
    pub kind_ends : to₂ ≤ length l
    kind_ends = three_ends (ascii "CODE=") (ascii "POSITION=") (ascii "WIDTH=") l to₁ mnemonic_ends e₂

    pub registers_end : {a b y to₃ : ℕ} → Some (a, b, y, to₃) ≡ registers_at l to₂ → to₃ ≤ length l
    registers_end e₃ = three_ends (ascii "A=") (ascii "B=") (ascii "Y=") l to₂ kind_ends e₃

-- where the line goes on after a switch, and after the five
pub switch_within : (name l : List ℕ) (i : ℕ) → i ≤ length l → (switch_at l i name).to ≤ length l
unfolding switch_at
switch_within name l i h = go (same (part_at l i) name) (stop_within l i h)
  where
    go : (b : Bool) → stop_of l i ≤ length l → (switch_by b (stop_of l i) i).to ≤ length l
    go true s = s
    go false s = h

pub switches_within : (l : List ℕ) (i : ℕ) → i ≤ length l → (switches_at l i).to ≤ length l
unfolding switches_at
switches_within l i h =
    switch_within (ascii "BORROW") l _
    (switch_within (ascii "MACRO-LINK") l _
    (switch_within (ascii "MACRO-CARRY") l _ (switch_within (ascii "MACRO-SELECT") l _ (switch_within (ascii "WRITE") l i h))))
