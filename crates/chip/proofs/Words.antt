-- Words one after another: the file keeps its size, and a list runs in two parts.
use mathlib.Core.Path.{◌≡◌, refl, ◌∙◌}
use mathlib.Core.List.{List, [], ◌∷◌, ◌++◌}
use Prim.Native.Nat.{ℕ, zero, suc}
use lib.ListN.{length}
use Rattle.bits.specs.Bits.{choose}
use Rattle.chip.specs.declared.Word.{Word}
use Rattle.chip.specs.Lists.{State, store_at, shown_of, step_of, execs}
use Rattle.chip.proofs.Files.{store_length}

written-size : (b y v : ℕ) (l : List ℕ) → length (choose b l (store_at l y v)) ≡ length l
written-size zero y v l = refl
written-size (suc b) y v l = store_length l y v

pub step-size : (w : Word) (t : State) → length (step_of w t).file ≡ length t.file
unfolding step_of
step-size w t = written-size w.write w.y (shown_of w t).y t.file

pub execs-size : (ws : List Word) (t : State) → length (execs ws t).file ≡ length t.file
unfolding execs
execs-size [] t = refl
execs-size (w ∷ ws) t = execs-size ws (step_of w t) ∙ step-size w t

pub execs-append : (a b : List Word) (t : State) → execs (a ++ b) t ≡ execs b (execs a t)
unfolding execs
execs-append [] b t = refl
execs-append (w ∷ a) b t = execs-append a b (step_of w t)
