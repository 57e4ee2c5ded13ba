-- A digit put before the lowest ones of a number: one more of them stands, and one less is left.
use Rattle.std.proofs.Common.{◌≡◌, ◌∙◌, ℕ, suc, ◌+◌, ◌-◌, ◌/◌, ◌%◌, ◌^◌, ◌<◌, ◌≤◌, List, length, set, drop, length-set, arith}
use Rattle.std.proofs.Math.Nat.{div-div-eq-div-mul, pow-suc}
use Rattle.std.proofs.lemmas.List.{drop-set}
use Rattle.text.specs.Text.{digit_of, digits_of}

-- the places from i on hold the digits below, what is left is the number without them
pub record Lowest (base n x i left : ℕ) (out : List ℕ) : Type 0 where
  pub size : length out ≡ n
  pub done : drop i out ≡ digits_of base (n - i) x
  pub rest : left ≡ x / base ^ (n - i)

pub lowest_more : {base n x i left : ℕ} {out : List ℕ} → Lowest base n x i left out → 0 < i → i ≤ n
    → Lowest base n x (i - 1) (left / base) (set out (i - 1) (digit_of (left % base)))
lowest_more {base} {n} {x} {i} {left} {out} l p h =
    let e : n - (i - 1) ≡ suc (n - i) = omega arith in
    let b : i - 1 < length out = omega (arith, l.size) in
    let s : (i - 1) + 1 ≡ i = omega arith in
    let d = digit_of (left % base) in
    record {
      size = length-set out (i - 1) d ∙ l.size;
      done = rw (e, drop-set out (i - 1) d b, s, l.done, l.rest);
      rest = rw (e, l.rest, pow-suc, div-div-eq-div-mul);
    }
