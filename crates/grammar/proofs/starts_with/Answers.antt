-- Byte beside byte, or too short.
use Rattle.std.proofs.Common.{ℕ, eqb, ◌∙◌, rules, tests}
use Rattle.std.proofs.lemmas.Iterator.{YieldsList-from_slice, YieldsList-from_zip}
use Rattle.std.proofs.lemmas.Iterator.Search.{all_from_yields_List}
use Rattle.grammar.specs.Grammar.{capital}
use Rattle.grammar.proofs.Names.{starts_zip, not_longer}
use Rattle.grammar.proofs.starts_with.Goals as goal

pub returns-then-part-name : goal.returns-then-part-name
returns-then-part-name c =
    all_from_yields_List (λ (q : ℕ × ℕ). eqb (capital q.0) q.1) c.all.new.self _ c.all.result c.all.ensures.ran
    (YieldsList-from_zip (YieldsList-from_slice c.args.part.now (cc)) (YieldsList-from_slice c.args.name.now cc))
    (λ x b q k. search (rules, tests))
    ∙ starts_zip c.args.name.now c.args.part.now c.if-part-name.true

pub returns-else-part-name : goal.returns-else-part-name
returns-else-part-name c = not_longer c.args.name.now c.args.part.now c.if-part-name.false
