-- The table's rows are the columns of the mnemonics.
use mathlib.Core.Path.{ap, ◌∙◌}
use mathlib.Core.List.{List, []}
use Prim.Native.Nat.{ℕ}
use lib.ListN.{get_or}
use Rattle.mnemonics.proofs.Mnemonics.{column-at}
use Rattle.mnemonics.proofs.column.Goals as goal

pub returns : goal.returns
returns c = let n = c.args.opcode in
    ap (λ (l : List (List ℕ)). get_or l n []) c.table.ensures ∙ column-at n c.requires
