-- Words over the byte. Assumes nothing.
use Rattle.std.specs.Prelude.{ℕ}

-- a ternary word over the byte, with the state that follows where it matches
pub record ByteWord : Type 0 where
  pub value : ℕ
  pub mask : ℕ
  pub next : ℕ
