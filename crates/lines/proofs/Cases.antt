-- The tally after one line more.
use Rattle.std.proofs.Common.{◌≡◌, ◌∙◌, ap, ℕ, Bool, List, [], ◌∷◌, ◌++◌, sym}
use Rattle.std.proofs.lemmas.List.Elements.{All-push}
use Rattle.std.proofs.lemmas.List.Sums.{fold_push}
use Rattle.lines.specs.declared.Tally.{Tally}
use Rattle.lines.specs.Lines.{counted_of, Tallied}

pub tallied_more : {answers : List ℕ → Bool → Type 0} {tally after : Tally} (line : List ℕ) (right : Bool) → Tallied answers tally → answers line right
    → after ≡ counted_of tally right → Tallied answers after
tallied_more {answers} line right t h e = record {
  lines = t.lines ++ ((line, right) ∷ []);
  answered = All-push (λ c. answers c.0 c.1) t.lines (line, right) t.answered h;
  counted = e ∙ ap (λ s. counted_of s right) t.counted ∙ sym (fold_push (λ s c. counted_of s c.1) _ t.lines (line, right));
}
