-- What the layers above may use of the whole-word definition: what a handler's fixed words do, and that every word leaves all in range.
use mathlib.Core.Path.{◌≡◌, ap, ◌∙◌}
use Prim.Native.Nat.{ℕ, ◌^◌, ◌<◌}
use Rattle.bits.specs.Bits.{selected, merged}
use Rattle.bits.proofs.Laws.{merged-whole}
use Rattle.machine.specs.declared.Inputs.{Inputs}
use Rattle.machine.specs.Status.{Good, loaded}
use Rattle.machine.specs.Inputs.{Sound, Kept, bits_of, read_by, leaving}
use Rattle.machine.proofs.Round.{read-lt}
use Rattle.movement.specs.DataMovement.{PASS-STAT, PASS-Q, load_q, load_status}
use Rattle.chip.specs.Glossary.{perform_of}
use Rattle.chip.proofs.Kept.{perform_kept}

-- all four bytes selected
whole : (x : Inputs) (s u : ℕ) → x.code ≡ 0 → s < 2 ^ 32 → u < 2 ^ 32 → merged (bits_of x) s u ≡ s
whole x s u e hs hu = ap (λ (k : ℕ). merged (selected k) s u) e ∙ merged-whole s u hs hu

-- ---- a handler's fixed words, byte code 00
-- PASS-STAT: Y is the status as the word reads it, and nothing changes
pub pass_stat : (x : Inputs) → x.code ≡ 0 → x.b < 2 ^ 32 → Good x.status → perform_of 0x04 x ≡ leaving x (read_by x x.status) x.status
unfolding perform_of PASS-STAT
pass_stat x e hb g = ap (λ (y : ℕ). leaving x y x.status) (whole x (read_by x x.status) x.b e (read-lt x.borrow x.status g) hb)

-- PASS-Q: Y is Q, and nothing changes
pub pass_q : (x : Inputs) → x.code ≡ 0 → x.b < 2 ^ 32 → x.q < 2 ^ 32 → perform_of 0x05 x ≡ leaving x x.q x.status
unfolding perform_of PASS-Q
pass_q x e hb hq = ap (λ (y : ℕ). leaving x y x.status) (whole x x.q x.b e hq hb)

-- LOADQ-A: Q becomes the A input
pub load-q : (x : Inputs) → x.code ≡ 0 → x.a < 2 ^ 32 → x.q < 2 ^ 32 → (perform_of 0x06 x).q ≡ x.a
unfolding perform_of load_q
load-q x e ha hq = whole x x.a x.q e ha hq

-- LDSTAT-A: Q stays, and the status is the A input loaded
pub load_stat : (x : Inputs) → x.code ≡ 0 → x.a < 2 ^ 32 → Good x.status → perform_of 0x1c x ≡ leaving x x.a (loaded x.a)
unfolding perform_of load_status
load_stat x e ha g = ap (λ (y : ℕ). leaving x y (loaded y)) (whole x x.a (read_by x x.status) e ha (read-lt x.borrow x.status g))

-- every word leaves all in range
pub in_range : (n : ℕ) (x : Inputs) → Sound x → x.a < 2 ^ 32 → x.b < 2 ^ 32 → x.q < 2 ^ 32 → Kept (perform_of n x)
in_range n x h ha hb hq = perform_kept x h ha hb hq n
