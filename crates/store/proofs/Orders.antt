-- The order of rows, by cluster, then number, is a strict total order: each fact splits the tests of the numbers.
use Rattle.std.proofs.Common.{◌≡◌, ℕ, Bool, true, false, [], refl, arith}
use Rattle.std.proofs.lemmas.Bool.Decides.{nat_tests}
use Rattle.store.specs.Table.{TableRow, both, under, before}

-- what a test of two parts tells
pub both_true : (a b : Bool) → both a b ≡ true → (a ≡ true) × (b ≡ true)
both_true true b e = (refl, e)
both_true false b e = grind arith

pub both_from : (a b : Bool) → a ≡ true → b ≡ true → both a b ≡ true
both_from true b e f = f
both_from false b e f = e

pub both_false : (a b : Bool) → b ≡ false → both a b ≡ false
both_false true b e = e
both_false false b e = refl

-- a cluster and number that come before a row are not its own
pub before-under : (c n : ℕ) (row : TableRow) → before c n row ≡ true → under c n row ≡ false
before-under c n row h = grind (arith, nat_tests)

pub before_trans : (c n : ℕ) (row next : TableRow) → before c n row ≡ true → before row.cluster row.number next ≡ true → before c n next ≡ true
before_trans c n row next h k = grind (arith, nat_tests)

-- neither before a row nor its own: behind it
pub before-total : (c n : ℕ) (row : TableRow) → before c n row ≡ false → under c n row ≡ false → before row.cluster row.number (record { cluster = c; number = n; words = [] }) ≡ true
before-total c n row h k = grind (arith, nat_tests)

-- the order goes one way
pub after-under : (row next : TableRow) → before row.cluster row.number next ≡ true → under next.cluster next.number row ≡ false
after-under row next h = grind (arith, nat_tests)

pub after-before : (row next : TableRow) → before row.cluster row.number next ≡ true → before next.cluster next.number row ≡ false
after-before row next h = grind (arith, nat_tests)

pub under_own : (row : TableRow) → under row.cluster row.number row ≡ true
under_own row = grind (arith, nat_tests)
