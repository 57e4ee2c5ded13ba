-- What is written into a lent text, and what the rest of it holds.
use Rattle.std.specs.Prelude.{◌≡◌, List, ◌++◌, ℕ, ◌+◌, ◌≤◌, length, take, drop}

-- a line stands at a place, all else is as it was
pub record Put (line : List ℕ) (at : ℕ) (before after : List ℕ) : Type 0 where
  pub bytes : after ≡ take at before ++ line ++ drop (at + length line) before

-- a line stands at a place and ends at another
pub record Added (line : List ℕ) (at : ℕ) (before : List ℕ) (end : ℕ) (after : List ℕ) : Type 0 where
  pub ends : end ≡ at + length line
  pub put : Put line at before after

-- a text stands at the start; its length is n, and the bytes past it are as they were
pub record Written (text before : List ℕ) (n : ℕ) (after : List ℕ) : Type 0 where
  pub size : n ≡ length text
  pub fits : n ≤ length before
  pub bytes : after ≡ text ++ drop n before
