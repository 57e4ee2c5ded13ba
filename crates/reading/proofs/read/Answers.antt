-- Each return is one way in which reading a text ends.
use mathlib.Core.Path.{refl, ap, sym, ◌∙◌}
use borrow.Author.Tests.{ltb-true, ltb-false}
use lib.ListN.{length}
use Rattle.std.proofs.Common.{Err}
use Rattle.std.specs.Result.{result_ok}
use Rattle.reasons.proofs.Rows.{passed_on}
use Rattle.reading.proofs.Table.{at_outside, at_first, at-line}
use Rattle.reading.proofs.Ends.{first_read, outside, begun, counted, put_ready, read-refused, read_count, read-room, read_done}
use Rattle.reading.proofs.read.Goals as goal

pub returns-in_err-head : goal.returns-in_err-head
returns-in_err-head c =
    let t = c.args.text.now in
    let d = c.args.sheet.now in
    let s = first_read t c.next.new.self.0.now _ _ c.next.ensures.steps refl c.unwrap_or-first.ensures c.read_first.ensures in
    let o = outside _ _ _ c.ok_or.ensures.value c.in_err-head.was in
    let p = read-refused t d _ (passed_on _ _ c.from_residual.ensures.1 ∙ ap Err o.1) (at_outside t (length d) (s.0 ∙ o.0)) in
    record { sheet_after = p.0; numbers = p.1 }

pub returns-in_err-check_first : goal.returns-in_err-check_first
returns-in_err-check_first c =
    let t = c.args.text.now in
    let d = c.args.sheet.now in
    let s = first_read t c.next.new.self.0.now _ _ c.next.ensures.steps refl c.unwrap_or-first.ensures c.read_first.ensures in
    let h = s.0 ∙ c.ok_or.ensures.ok_part ∙ ap result_ok c.in_ok-head.was in
    let p = read-refused t d _ (passed_on _ _ c.from_residual-in_err-check_first.ensures.1)
    (at_first t (length d) h (sym c.check_first.ensures ∙ c.in_err-check_first.was)) in
    record { sheet_after = p.0; numbers = p.1 }

pub returns-in_err-check_lines : goal.returns-in_err-check_lines
returns-in_err-check_lines c =
    let t = c.args.text.now in
    let d = c.args.sheet.now in
    let s = first_read t c.next.new.self.0.now _ _ c.next.ensures.steps refl c.unwrap_or-first.ensures c.read_first.ensures in
    let h = s.0 ∙ c.ok_or.ensures.ok_part ∙ ap result_ok c.in_ok-head.was in
    let b = begun h s.1 c.check_first.ensures c.in_ok-check_first.was in
    let p = read-refused t d _ (passed_on _ _ c.from_residual-in_err-check_lines.ensures.1)
    (at-line t (length d) b.head b.sound b.lines (sym c.check_lines.ensures ∙ c.in_err-check_lines.was)) in
    record { sheet_after = p.0; numbers = p.1 }

pub returns-in_err-refuse_if : goal.returns-in_err-refuse_if
returns-in_err-refuse_if c =
    let t = c.args.text.now in
    let d = c.args.sheet.now in
    let s = first_read t c.next.new.self.0.now _ _ c.next.ensures.steps refl c.unwrap_or-first.ensures c.read_first.ensures in
    let h = s.0 ∙ c.ok_or.ensures.ok_part ∙ ap result_ok c.in_ok-head.was in
    let b = begun h s.1 c.check_first.ensures c.in_ok-check_first.was in
    let k = counted b c.check_lines.ensures c.in_ok-check_lines.was c.count_lines-words.ensures in
    let p = read_count t d k _ (passed_on _ _ c.from_residual-in_err-refuse_if.ensures.1 ∙ ap Err c.in_err-refuse_if.ensures.held.1) (ltb-true _ _ c.in_err-refuse_if.ensures.held.0) in
    record { sheet_after = p.0; numbers = p.1 }

pub returns-in_err-refuse_if-2 : goal.returns-in_err-refuse_if-2
returns-in_err-refuse_if-2 c =
    let t = c.args.text.now in
    let d = c.args.sheet.now in
    let s = first_read t c.next.new.self.0.now _ _ c.next.ensures.steps refl c.unwrap_or-first.ensures c.read_first.ensures in
    let h = s.0 ∙ c.ok_or.ensures.ok_part ∙ ap result_ok c.in_ok-head.was in
    let b = begun h s.1 c.check_first.ensures c.in_ok-check_first.was in
    let k = counted b c.check_lines.ensures c.in_ok-check_lines.was c.count_lines-words.ensures in
    let p = read-room t d k _ (passed_on _ _ c.from_residual-in_err-refuse_if-2.ensures.1 ∙ ap Err c.in_err-refuse_if-2.ensures.held.1)
    (ltb-false _ _ c.in_ok-refuse_if.ensures.passed) (ltb-true _ _ c.in_err-refuse_if-2.ensures.held.0) in
    record { sheet_after = p.0; numbers = p.1 }

pub put_sheet-requires-clause-fits : goal.put_sheet-requires-clause-fits
put_sheet-requires-clause-fits c =
    let t = c.args.text.now in
    let d = c.args.sheet.now in
    let s = first_read t c.next.new.self.0.now _ _ c.next.ensures.steps refl c.unwrap_or-first.ensures c.read_first.ensures in
    let h = s.0 ∙ c.ok_or.ensures.ok_part ∙ ap result_ok c.in_ok-head.was in
    let b = begun h s.1 c.check_first.ensures c.in_ok-check_first.was in
    let k = counted b c.check_lines.ensures c.in_ok-check_lines.was c.count_lines-words.ensures in
    put_ready k (ltb-false _ _ c.in_ok-refuse_if-2.ensures.passed)

pub returns : goal.returns
returns c =
    let t = c.args.text.now in
    let d = c.args.sheet.now in
    let s = first_read t c.next.new.self.0.now _ _ c.next.ensures.steps refl c.unwrap_or-first.ensures c.read_first.ensures in
    let h = s.0 ∙ c.ok_or.ensures.ok_part ∙ ap result_ok c.in_ok-head.was in
    let b = begun h s.1 c.check_first.ensures c.in_ok-check_first.was in
    let k = counted b c.check_lines.ensures c.in_ok-check_lines.was c.count_lines-words.ensures in
    let p = read_done t d k (ltb-false _ _ c.in_ok-refuse_if.ensures.passed) (ltb-false _ _ c.in_ok-refuse_if-2.ensures.passed) c.put_sheet.ensures in
    record { sheet_after = p.0; numbers = p.1 }
