-- Tables of rows: a reason is given exactly when its row's condition holds and no earlier one does, proved once for all tables; and how a table
-- goes on after a part of it.
use mathlib.Core.Path.{◌≡◌, refl, ap, ◌∙◌, sym, subst}
use mathlib.Core.List.{List, [], ◌∷◌, ◌++◌}
use mathlib.Core.Bool.{Bool, true, false, not, ◌&&◌, true≢false, and_assoc}
use Prim.Native.Nat.{ℕ, zero, suc, ◌+◌, ◌-◌, ◌≤◌, ◌<◌}
use native.Mathlib.Omega.{arith}
use native.Mathlib.Decide.{ℕ_discrete}
use Rattle.reasons.specs.Reasons.{Row, first_of, none_hold, rows_by, refused, Check, good, or_else}
use Rattle.std.proofs.Common.{Result, Ok, Err}
use Rattle.std.specs.Result.{IsErrAnd}
use Rattle.reasons.specs.declared.Reason.{Reason}
use Rattle.reasons.specs.declared.Refusal.{Refusal}
use Rattle.reasons.specs.declared.Reason.TheVariants.{Done}

-- a refusal has one reason and one place
abbrev reason_in : Check → Reason
reason_in (Ok done) = Done
reason_in (Err refusal) = refusal.reason

abbrev place_in : Check → ℕ
place_in (Ok done) = 0
place_in (Err refusal) = refusal.place

pub same_reason : {r q : Reason} {p k : ℕ} → refused r p ≡ refused q k → r ≡ q
same_reason e = ap reason_in e

pub same_place : {r q : Reason} {p k : ℕ} → refused r p ≡ refused q k → p ≡ k
same_place e = ap place_in e

-- no row holds
pub data None : List Row → Type 0 where
  none : None []
  more : {r : Row} {rs : List Row} → r.holds ≡ false → None rs → None (r ∷ rs)

-- nothing refused: no row holds
pub good_none : (a : List Row) → first_of a ≡ good → None a
good_none [] e = none
good_none (r ∷ rs) e = go r.holds refl e (good_none rs)
  where
    go : (b : Bool) → r.holds ≡ b → or_else b (refused r.reason r.place) (first_of rs) ≡ good → (first_of rs ≡ good → None rs) → None (r ∷ rs)
    go true h f i = absurd (cc)
    go false h f i = more h (i f)

pub none_good : (a : List Row) → None a → first_of a ≡ good
none_good [] n = refl
none_good (r ∷ rs) (more h n) = rw h (none_good rs n)

-- the same by a test of the whole table
pub hold_good : (a : List Row) → none_hold a ≡ true → first_of a ≡ good
hold_good [] e = refl
hold_good (r ∷ rs) e = go r.holds e (hold_good rs)
  where
    go : (b : Bool) → (not b && none_hold rs) ≡ true → (none_hold rs ≡ true → first_of rs ≡ good) → or_else b (refused r.reason r.place) (first_of rs) ≡ good
    go true f i = absurd (true≢false (sym f))
    go false f i = i f

pub good_hold : (a : List Row) → first_of a ≡ good → none_hold a ≡ true
good_hold a e = go a (good_none a e)
  where
    go : (a : List Row) → None a → none_hold a ≡ true
    go [] n = refl
    go (r ∷ rs) (more h n) = rw h (go rs n)

-- which goes part by part
hold_append : (a b : List Row) → none_hold (a ++ b) ≡ (none_hold a && none_hold b)
hold_append [] b = refl
hold_append (r ∷ rs) b = rw (hold_append rs b, and_assoc) refl

-- a table after another: what it answers where the first refuses nothing
abbrev pub and_then : Check → Check → Check
and_then (Ok done) d = d
and_then (Err refusal) d = Err refusal

pub first_append : (a b : List Row) → first_of (a ++ b) ≡ and_then (first_of a) (first_of b)
first_append [] b = refl
first_append (r ∷ rs) b = go r.holds (first_append rs b)
  where
    go : (t : Bool) → first_of (rs ++ b) ≡ and_then (first_of rs) (first_of b)
        → or_else t (refused r.reason r.place) (first_of (rs ++ b)) ≡ and_then (or_else t (refused r.reason r.place) (first_of rs)) (first_of b)
    go true e = refl
    go false e = e

-- a table after one in which no row holds
pub first_past : (a b : List Row) → None a → first_of (a ++ b) ≡ first_of b
first_past [] b n = refl
first_past (r ∷ rs) b (more h n) = rw h (first_past rs b n)

pub first_good : (a b : List Row) → first_of a ≡ good → first_of (a ++ b) ≡ first_of b
first_good a b e = first_past a b (good_none a e)

-- a table after one that refuses
pub first_bad : (a b : List Row) (r : Reason) (p : ℕ) → first_of a ≡ refused r p → first_of (a ++ b) ≡ refused r p
first_bad [] b r p e = absurd (cc)
first_bad (x ∷ xs) b r p e = go x.holds refl e (first_bad xs b r p)
  where
    go : (t : Bool) → x.holds ≡ t → or_else t (refused x.reason x.place) (first_of xs) ≡ refused r p
        → (first_of xs ≡ refused r p → first_of (xs ++ b) ≡ refused r p) → first_of ((x ∷ xs) ++ b) ≡ refused r p
    go true h f i = rw h f
    go false h f i = rw h (i f)

-- what `?` passes on
pub passed_on : {A E : Type 0} (r : Result A E) (x : E) → IsErrAnd r (λ y. y ≡ x) → r ≡ Err x
passed_on (Ok v) x h = absurd h
passed_on (Err y) x h = ap Err h

-- a reason is given exactly where a row of that reason holds and no earlier row does
pub record First (rows : List Row) (r : Reason) (p : ℕ) : Type 0 where
  pub earlier : List Row
  pub row : Row
  pub later : List Row
  pub split : rows ≡ earlier ++ row ∷ later
  pub passed : None earlier
  pub holds : row.holds ≡ true
  pub reason : row.reason ≡ r
  pub place : row.place ≡ p

pub exactly_if : (rows : List Row) (r : Reason) (p : ℕ) → First rows r p → first_of rows ≡ refused r p
exactly_if rows r p f =
    ap first_of f.split ∙ first_past f.earlier (f.row ∷ f.later) f.passed
    ∙ rw (f.holds, f.reason, f.place) refl

pub exactly_only : (rows : List Row) (r : Reason) (p : ℕ) → first_of rows ≡ refused r p → First rows r p
exactly_only [] r p e = absurd (cc)
exactly_only (x ∷ xs) r p e = go x.holds refl e (exactly_only xs r p)
  where
    go : (t : Bool) → x.holds ≡ t → or_else t (refused x.reason x.place) (first_of xs) ≡ refused r p
        → (first_of xs ≡ refused r p → First xs r p) → First (x ∷ xs) r p
    go true h f i = record { earlier = []; row = x; later = xs; split = refl; passed = none; holds = h; reason = same_reason f; place = same_place f }
    go false h f i =
        let g : First xs r p = i f in
        record {
          earlier = x ∷ g.earlier;
          row = g.row;
          later = g.later;
          split = ap (λ (l : List Row). x ∷ l) g.split;
          passed = more h g.passed;
          holds = g.holds;
          reason = g.reason;
          place = g.place;
        }

-- what is left of a table by index, one by one
module _ (f : ℕ → List Row) where
  rows_more : (k count : ℕ) → k < count → rows_by f k (count - k) ≡ f k ++ rows_by f (k + 1) (count - (k + 1))
  rows_more k count h =
      let e : count - k ≡ suc (count - (k + 1)) = omega arith in
      rw e refl

  pub rows_bad : (k count : ℕ) (x : Refusal) → k < count → first_of (f k) ≡ Err x → first_of (rows_by f k (count - k)) ≡ Err x
  rows_bad k count x h e = ap first_of (rows_more k count h) ∙ first_bad (f k) (rows_by f (k + 1) (count - (k + 1))) x.reason x.place e

  pub rows_good : (k count : ℕ) → k < count → first_of (f k) ≡ good → first_of (rows_by f k (count - k)) ≡ first_of (rows_by f (k + 1) (count - (k + 1)))
  rows_good k count h e = ap first_of (rows_more k count h) ∙ first_good (f k) (rows_by f (k + 1) (count - (k + 1))) e

  -- whether a row holds in it: in the next one's, or in those after it
  pub rows_hold : (k count : ℕ) → k < count → none_hold (rows_by f k (count - k)) ≡ (none_hold (f k) && none_hold (rows_by f (k + 1) (count - (k + 1))))
  rows_hold k count h = ap none_hold (rows_more k count h) ∙ hold_append (f k) (rows_by f (k + 1) (count - (k + 1)))

-- what a loop over the things asks for, whose invariant is that the whole table answers as what is left of it
pub ruleset scanning = (rows_bad, rows_good)

-- a part of the table in which no row holds
pub none_left : (a b : List Row) → None (a ++ b) → None a
none_left [] b n = none
none_left (r ∷ rs) b (more h n) = more h (none_left rs b n)

pub none_right : (a b : List Row) → None (a ++ b) → None b
none_right [] b n = n
none_right (r ∷ rs) b (more h n) = none_right rs b n

pub none_both : (a b : List Row) → None a → None b → None (a ++ b)
none_both [] b n m = m
none_both (r ∷ rs) b (more h n) m = more h (none_both rs b n m)

pub none_at : (f : ℕ → List Row) (k m : ℕ) → None (rows_by f k m) → (j : ℕ) → k ≤ j → j < k + m → None (f j)
none_at f k zero h j lo hi = absurd (omega arith)
none_at f k (suc m) h j lo hi = go (ℕ_discrete k j) (none_at f (k + 1) m (none_right (f k) (rows_by f (k + 1) m) h) j)
  where
    go : Dec (k ≡ j) → (k + 1 ≤ j → j < k + 1 + m → None (f j)) → None (f j)
    go (yes e) i = subst (λ (x : ℕ). None (f x)) e (none_left (f k) (rows_by f (k + 1) m) h)
    go (no e) i = i (omega arith) (omega arith)
