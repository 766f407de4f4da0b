-- Sides that can be lost and rebuilt. Sides are counted from 1; `out` is the side that is out, 0 where none is.
--
--   lose_refusal     why lose refuses, if it does; lose_out which side is out after it
--   rebuild_refusal  why rebuild refuses, if it does; rebuild_out which side is out after it
use Rattle.std.specs.Prelude.{ℕ, Bool, cond, Some, None, Option, ◌==◌, nat_le}
use Rattle.refusal.specs.Answers.{unless_refused}
use Rattle.refusal.specs.declared.StoreRefusal.{StoreRefusal}
use Rattle.refusal.specs.declared.StoreRefusal.TheVariants as refuses
use Rattle.store.specs.Table.{both}

-- a store with so many sides has this one
abbrev pub is_side : ℕ → ℕ → Bool
is_side sides side = both (nat_le 1 side) (nat_le side sides)

abbrev pub lose_refusal : ℕ → ℕ → ℕ → Option StoreRefusal
lose_refusal sides out side =
    cond (is_side sides side) (cond (out == 0) None (Some refuses.SideOut)) (Some refuses.NoSide)

abbrev pub lose_out : ℕ → ℕ → ℕ → ℕ
lose_out sides out side = unless_refused (lose_refusal sides out side) out side

abbrev pub rebuild_refusal : ℕ → ℕ → ℕ → Option StoreRefusal
rebuild_refusal sides out side =
    cond (is_side sides side) (cond (out == side) None (Some refuses.SideOut)) (Some refuses.NoSide)

abbrev pub rebuild_out : ℕ → ℕ → ℕ → ℕ
rebuild_out sides out side = unless_refused (rebuild_refusal sides out side) out 0
