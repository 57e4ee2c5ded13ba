-- The line-up of a main list and a handler at the boundaries of a schedule is a line of executions, and how long it is.
use mathlib.Core.Path.{◌≡◌, sym, ap, ◌∙◌, subst}
use mathlib.Core.List.{List, [], ◌∷◌, ◌++◌}
use Prim.Native.Nat.{ℕ, suc, ◌+◌, ◌*◌, ◌-◌, ◌^◌, ◌≤◌, ◌<◌}
use native.Mathlib.Nat.{suc-mul, mul-le-mul}
use native.Mathlib.Omega.{arith}
use lib.ListN.{length, drop, length-append, length-drop, take-append-drop}
use lib.Seq.{drop-drop}
use Rattle.chip.specs.declared.Word.{Word}
use Rattle.sheet.specs.Sheet.{words_of, executions_of, between}
use Rattle.sheet.proofs.Positions.{executions-length, between-length}
use Rattle.interrupt.specs.Serve.{lineup, Rising}
use Rattle.interrupt.proofs.Owners.{Line}
use Rattle.interrupt.proofs.Owners.Line.{done, next, let_in}

-- boundaries that rise end within
pub rising_le : (n at : ℕ) (bs : List ℕ) → Rising n at bs → at ≤ n
unfolding Rising
rising_le n at [] r = r
rising_le n at (b ∷ bs) r = let i = rising_le n b bs r.1 in omega (arith, i, r.0)

-- ---- a line of executions
-- main executions one after another
line_on : (h ms : List Word) (n : ℕ) (ws vs : List Word) → Line h ms n ws → Line h (vs ++ ms) n (vs ++ ws)
line_on h ms n ws [] l = l
line_on h ms n ws (v ∷ vs) l = next (line_on h ms n ws vs l)

line-end : (h ws : List Word) → Line h ws 0 ws
line-end h [] = done
line-end h (w ∷ ws) = next (line-end h ws)

module _ (main h : List Word) where
  -- what is left, up to b and from there on
  pub split_left : (at b : ℕ) → at ≤ b → between at b main ++ drop b main ≡ drop at main
  split_left at b i =
      let e : at + (b - at) ≡ b = omega arith in
      ap (λ (k : ℕ). between at b main ++ drop k main) (sym e) ∙ ap (λ (l : List Word). between at b main ++ l) (sym (drop-drop (b - at) at main))
      ∙ take-append-drop (b - at) (drop at main)

  pub a-line : (at : ℕ) (bs : List ℕ) → Rising (length main) at bs → Line h (drop at main) (length bs) (lineup main h at bs)
  unfolding lineup Rising
  a-line at [] r = line-end h (drop at main)
  a-line at (b ∷ bs) r =
      subst (λ (ms : List Word). Line h ms (suc (length bs)) (between at b main ++ (h ++ lineup main h b bs))) (split_left at b r.0)
      (line_on h (drop b main) (suc (length bs)) (h ++ lineup main h b bs) (between at b main) (let_in (a-line b bs r.1)))

  -- ---- how many executions
  pub line-length : (at : ℕ) (bs : List ℕ) → Rising (length main) at bs → length (lineup main h at bs) ≡ length main - at + length bs * length h
  unfolding lineup Rising
  line-length at [] r = length-drop at main ∙ (let z : 0 * length h ≡ 0 = omega arith in omega arith)
  line-length at (b ∷ bs) r =
      let i : b ≤ length main = rising_le (length main) b bs r.1 in
      let e₁ : length (between at b main ++ (h ++ lineup main h b bs)) ≡ length (between at b main) + length (h ++ lineup main h b bs)
      = length-append (between at b main) (h ++ lineup main h b bs) in
      let e₂ : length (h ++ lineup main h b bs) ≡ length h + length (lineup main h b bs) = length-append h (lineup main h b bs) in
      let e₃ : length (between at b main) ≡ b - at = between-length main at b i in
      let e₄ : length (lineup main h b bs) ≡ length main - b + length bs * length h = line-length b bs r.1 in
      let e₅ : suc (length bs) * length h ≡ length bs * length h + length h = suc-mul (length bs) (length h) in
      omega (arith, r.0)

few : (s : List ℕ) → length (executions_of s) < 4096
unfolding words_of
few s = omega (arith, executions-length s)

-- with at most 1,024 boundaries they can be counted
pub line_short : (main h bs : List ℕ) → Rising (length (executions_of main)) 0 bs → length bs ≤ 1024
    → length (lineup (executions_of main) (executions_of h) 0 bs) < 2 ^ 64
line_short main h bs r i =
    let k : length (executions_of h) ≤ 4096 = omega (arith, few h) in
    let p : length bs * length (executions_of h) ≤ 1024 * 4096 = mul-le-mul i k in
    omega (arith, few main, line-length (executions_of main) (executions_of h) 0 bs r)
