-- The place of the first column whose name the part is.
use Rattle.std.proofs.Common.{◌≡◌, sym, ◌∙◌, map, rules, tests}
use Rattle.std.proofs.lemmas.Iterator.{YieldsList-from_slice}
use Rattle.std.proofs.lemmas.Iterator.Search.{position_from_yields_List}
use borrow.Author.Tests.{eqb-true, eqb-false}
use Rattle.text.specs.Ascii.{same}
use Rattle.mnemonics.specs.Mnemonics.{columns}
use Rattle.grammar.specs.Grammar.{capital}
use Rattle.grammar.specs.Scan.{name_in}
use Rattle.grammar.proofs.Mnemonics.{no_part, opcode_found}
use Rattle.grammar.proofs.opcode.Goals as goal

pub returns-then-is_empty : goal.returns-then-is_empty
returns-then-is_empty c = sym (no_part c.args.part.now (eqb-true _ 0 (sym c.is_empty.ensures ∙ c.if-is_empty.true)))

pub returns : goal.returns
returns c =
    let part = c.args.part.now in
    let kept : c.map.result ≡ c.position.result = search rules in
    let found =
    position_from_yields_List (λ column. same (map capital part) (name_in column)) _ _ c.position.result c.position.ensures.ran
    (YieldsList-from_slice columns cc) (λ x b q k. search (rules, tests)) in
    kept ∙ found ∙ opcode_found part (eqb-false _ 0 (sym c.is_empty.ensures ∙ c.if-is_empty.false))
