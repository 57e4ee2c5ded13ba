-- The words of a text's lines, one after another in a lent sheet.
use mathlib.Core.Path.{◌≡◌, ap, sym, subst, ◌∙◌}
use mathlib.Core.List.{List, [], ◌∷◌, ◌++◌, append_assoc, append-nil}
use Prim.Native.Nat.{ℕ, ◌+◌, ◌*◌, ◌≤◌}
use native.Mathlib.Omega.{arith}
use lib.ListN.{length}
use Rattle.text.specs.Fill.{Added}
use Rattle.text.proofs.Fill.{added_on, added_as}
use Rattle.packing.specs.Packing.{InRange}
use Rattle.grammar.specs.Grammar.{word_in}
use Rattle.reading.specs.Reader.{word_by, packed_line, packed_lines, AllFit}

-- ---- what holds at each turn: the words so far stand after the header, and with those left they are all
pub record Putting (before after : List ℕ) (all left : List (List ℕ)) (to : ℕ) : Type 0 where
  pub front : List ℕ
  pub size : length after ≡ length before
  pub room : to + 6 * length left ≤ length before
  pub fit : AllFit left
  pub put : Added front 4 before to after
  pub words : packed_lines all ≡ front ++ packed_lines left

module _ {before after : List ℕ} {all left : List (List ℕ)} {to : ℕ} (p : Putting before after all left to) where
  module _ {l : List ℕ} {ls : List (List ℕ)} (s : left ≡ l ∷ ls) where
    -- the next word fits, its fields and its bytes
    pub next_fits : InRange (word_by (word_in l)) × (to + 6 ≤ length after)
    next_fits = ((subst AllFit s p.fit).0, omega (arith, p.room, p.size, ap length s))

    -- with it there is one word more
    pub putting_more : {stop : ℕ} {later : List ℕ} → Added (packed_line l) to after stop later → length later ≡ length after
        → Putting before later all ls stop
    unfolding packed_lines
    putting_more {stop} {later} a n = record {
      front = p.front ++ packed_line l;
      size = n ∙ p.size;
      room = omega (arith, p.room, a.ends, ap length s);
      fit = (subst AllFit s p.fit).1;
      put = added_on (omega (arith, p.room, p.put.ends)) p.put a;
      words =
          p.words ∙ ap (λ (ls : List (List ℕ)). p.front ++ packed_lines ls) s
          ∙ sym (append_assoc p.front (packed_line l) (packed_lines ls));
    }

  -- and at the end of the text all stand
  pub putting_done : left ≡ [] → Added (packed_lines all) 4 before to after
  unfolding packed_lines
  putting_done h = added_as (sym (p.words ∙ ap (λ (ls : List (List ℕ)). p.front ++ packed_lines ls) h ∙ append-nil p.front)) p.put
