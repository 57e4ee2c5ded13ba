-- Each range, and each gap between two, is a run of the table; past 7F there is nothing.
use mathlib.Core.Path.{refl, sym}
use Prim.Native.Nat.{◌-◌}
use native.Mathlib.Omega.{arith}
use lib.ListN.{get_or-eq_default}
use Rattle.bits.proofs.Rest.{run_at}
use Rattle.chip.specs.Operations.{operations}
use Rattle.chip.specs.declared.Operation.TheVariants.{Basic, Shift, Decimal, Divide, Multiply, Field}
use Rattle.std.proofs.Common.{Ok, Err}
use Rattle.reasons.specs.declared.Reason.TheVariants.{Opcode}
use Rattle.chip.proofs.decode.Goals as goal

pub returns-in-0-to-29 : goal.returns-in-0-to-29
returns-in-0-to-29 c = run_at (λ k. Ok (Basic k)) operations (Err Opcode) 0x00 30 0 refl c.args.n _ (omega arith) (omega arith) (omega arith)

pub returns-in-32-to-59 : goal.returns-in-32-to-59
returns-in-32-to-59 c = run_at (λ k. Ok (Shift k)) operations (Err Opcode) 0x20 28 0 refl c.args.n _ (omega arith) (omega arith) (omega arith)

pub returns-in-60-to-71 : goal.returns-in-60-to-71
returns-in-60-to-71 c = run_at (λ k. Ok (Basic k)) operations (Err Opcode) 0x3c 12 30 refl c.args.n _ (omega arith) (omega arith) (omega arith)

pub returns-in-72-to-75 : goal.returns-in-72-to-75
returns-in-72-to-75 c = run_at (λ k. Ok (Decimal k)) operations (Err Opcode) 0x48 4 0 refl c.args.n _ (omega arith) (omega arith) (omega arith)

pub returns-in-78-to-90 : goal.returns-in-78-to-90
returns-in-78-to-90 c = run_at (λ k. Ok (Divide k)) operations (Err Opcode) 0x4e 13 0 refl c.args.n _ (omega arith) (omega arith) (omega arith)

pub returns-in-91-to-95 : goal.returns-in-91-to-95
returns-in-91-to-95 c = run_at (λ k. Ok (Multiply k)) operations (Err Opcode) 0x5b 5 0 refl c.args.n _ (omega arith) (omega arith) (omega arith)

pub returns-in-96-to-127 : goal.returns-in-96-to-127
returns-in-96-to-127 c = run_at (λ k. Ok (Field k)) operations (Err Opcode) 0x60 32 0 refl c.args.n _ (omega arith) (omega arith) (omega arith)

pub returns-in_default : goal.returns-in_default
returns-in_default c = let n = c.args.n in run_at (λ k. Err Opcode) operations (Err Opcode) 0x1e 2 0 refl n (n - 0x1e) (omega arith) (omega arith) (omega arith)

pub returns-in_default-2 : goal.returns-in_default-2
returns-in_default-2 c = let n = c.args.n in run_at (λ k. Err Opcode) operations (Err Opcode) 0x4c 2 0 refl n (n - 0x4c) (omega arith) (omega arith) (omega arith)

pub returns-in_default-3 : goal.returns-in_default-3
returns-in_default-3 c = sym (get_or-eq_default operations (Err Opcode) {n = c.args.n} (omega arith))
