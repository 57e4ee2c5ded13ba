-- Each switch where the one before it ended.
use Rattle.grammar.specs.Scan.{switches_at}
use Rattle.grammar.proofs.Lines.{switch_within}
use Rattle.grammar.proofs.take_switches.Goals as goal

pub take_switch-select-requires : goal.take_switch-select-requires
take_switch-select-requires c = rw c.take_switch-write.ensures (switch_within _ _ _ c.requires)

pub take_switch-carry-requires : goal.take_switch-carry-requires
take_switch-carry-requires c = rw (c.take_switch-select.ensures, c.take_switch-write.ensures) (switch_within _ _ _ (switch_within _ _ _ c.requires))

pub take_switch-link-requires : goal.take_switch-link-requires
take_switch-link-requires c =
    rw (c.take_switch-carry.ensures, c.take_switch-select.ensures, c.take_switch-write.ensures)
    (switch_within _ _ _ (switch_within _ _ _ (switch_within _ _ _ c.requires)))

pub take_switch-borrow-requires : goal.take_switch-borrow-requires
take_switch-borrow-requires c =
    rw (c.take_switch-link.ensures, c.take_switch-carry.ensures, c.take_switch-select.ensures, c.take_switch-write.ensures)
    (switch_within _ _ _ (switch_within _ _ _ (switch_within _ _ _ (switch_within _ _ _ c.requires))))

pub returns : goal.returns
unfolding switches_at
returns c =
    rw (
      c.take_switch-borrow.ensures,
      c.take_switch-link.ensures,
      c.take_switch-carry.ensures,
      c.take_switch-select.ensures,
      c.take_switch-write.ensures,
    )
