-- Lines one after another in a lent text, and texts at its start.
use mathlib.Core.Path.{◌≡◌, refl, ap, ap₂, sym, subst, ◌∙◌}
use mathlib.Core.List.{List, [], ◌++◌, append_assoc, append-nil}
use Prim.Native.Nat.{ℕ, ◌+◌, ◌≤◌}
use native.Mathlib.Omega.{arith}
use lib.ListN.{length, take, drop, length-append, length-take, take-append-drop}
use lib.Seq.{take_at, drop_at, drop-drop}
use Rattle.text.specs.Fill.{Put, Added, Written}

-- ---- a line into a text that starts with another: the text goes on with it
pub put_on : (front line before middle after : List ℕ) (at : ℕ) → length front ≡ at → middle ≡ front ++ drop at before → Put line at middle after
    → after ≡ front ++ line ++ drop (at + length line) before
put_on front line before middle after at n e p =
    p.bytes ∙ ap (λ (m : List ℕ). take at m ++ line ++ drop (at + length line) m) e
    ∙ ap₂ (λ (a b : List ℕ). a ++ line ++ b) (take_at front (drop at before) at n)
    (sym (drop-drop (length line) at (front ++ drop at before)) ∙ ap (drop (length line)) (drop_at front (drop at before) at n) ∙ drop-drop (length line) at before)

pub put_as : {line other : List ℕ} {at : ℕ} {before after : List ℕ} → line ≡ other → Put line at before after → Put other at before after
put_as {line} {other} {at} {before} {after} e p = subst (λ (m : List ℕ). Put m at before after) e p

-- one line after another
pub added_on : {line next before middle after : List ℕ} {at end stop : ℕ} → at ≤ length before → Added line at before end middle → Added next end middle stop after
    → Added (line ++ next) at before stop after
added_on {line} {next} {before} {middle} {after} {at} {end} {stop} h a b = record { ends = stops; put = record { bytes = bytes } }
  where
    long : length (take at before ++ line) ≡ end
    long = length-append (take at before) line ∙ ap (λ (n : ℕ). n + length line) (length-take at before) ∙ omega (arith, a.ends)

    so_far : middle ≡ take at before ++ line ++ drop end before
    so_far = a.put.bytes ∙ ap (λ (n : ℕ). take at before ++ line ++ drop n before) (sym a.ends)

    stops : stop ≡ at + length (line ++ next)
    stops = omega (arith, a.ends, b.ends, length-append line next)

    bytes : after ≡ take at before ++ (line ++ next) ++ drop (at + length (line ++ next)) before
    bytes =
        put_on (take at before ++ line) next before middle after end long so_far b.put
        ∙ ap₂ (λ (l : List ℕ) (n : ℕ). l ++ drop n before) (append_assoc (take at before) line next) (sym b.ends ∙ stops)

-- nothing added
pub added_none : (before : List ℕ) (at : ℕ) → Added [] at before at before
added_none before at = record { ends = omega arith; put = record { bytes = sym (whole ∙ take-append-drop at before) } }
  where
    whole : take at before ++ [] ++ drop (at + 0) before ≡ take at before ++ drop at before
    whole = let e : at + 0 ≡ at = omega arith in ap₂ (λ (l : List ℕ) (n : ℕ). l ++ drop n before) (append-nil (take at before)) e

pub added_as : {line other before after : List ℕ} {at end : ℕ} → line ≡ other → Added line at before end after → Added other at before end after
added_as {line} {other} {before} {after} {at} {end} e a = subst (λ (l : List ℕ). Added l at before end after) e a

-- ---- texts at the start: one more line after them, and a line by itself
pub written_on : {lines line before middle after : List ℕ} {n : ℕ} → Written lines before n middle → n + length line ≤ length before → Put line n middle after
    → Written (lines ++ line) before (n + length line) after
written_on {lines} {line} {before} {middle} {after} {n} w r p = record {
  size = ap (λ (k : ℕ). k + length line) w.size ∙ sym (length-append lines line);
  fits = r;
  bytes = put_on lines line before middle after n (sym w.size) w.bytes p;
}

pub written-alone : {line before after : List ℕ} → length line ≤ length before → Put line 0 before after → Written line before (0 + length line) after
written-alone {line} r p = let z : 0 + length line ≡ length line = omega arith in record { size = z; fits = omega arith; bytes = p.bytes }

pub written_as : {text other before after : List ℕ} {n m : ℕ} → text ≡ other → m ≡ n → Written text before n after → Written other before m after
written_as {text} {other} {before} {after} {n} {m} e f w =
    subst (λ (t : List ℕ). Written t before m after) e (subst (λ (k : ℕ). Written text before k after) (sym f) w)

-- a line added at the start
pub added-written : {line before after : List ℕ} {n : ℕ} → length line ≤ length before → Added line 0 before n after → Written line before n after
added-written {line} {before} {after} {n} h a =
    let e : n ≡ length line = omega (arith, a.ends) in
    written_as refl a.ends (written-alone h a.put)

-- no second length and no second text
pub one_text : {text before after other : List ℕ} {n m : ℕ} → Written text before n after → Written text before m other → (n ≡ m) × (after ≡ other)
one_text {text} {before} w v =
    let e = w.size ∙ sym v.size in
    (e, w.bytes ∙ ap (λ (k : ℕ). text ++ drop k before) e ∙ sym v.bytes)
