-- The signed rule and the limits, in the form in which omega reads them.
use Rattle.std.proofs.Common.{◌≡◌, ℕ, ◌-◌, ℤ, pos, negsuc, ◌+ℤ◌, ◌-ℤ◌, arith}
use borrow.Author.Differences.{up, down}
use Rattle.std.proofs.lemmas.Int.{ints, clamps}
use Rattle.charges.specs.Amounts.{weight_of, passed, units, changed}

pub units-is : (z : ℤ) → units z ≡ up z - down z
units-is (pos n) = omega arith
units-is (negsuc n) = omega arith

-- the change that is passed on is the weight after less the weight before
pub passed_is : (a r : ℕ) (c : ℤ) → passed a r c ≡ pos (weight_of (changed a c) r) -ℤ pos (weight_of a r)
passed_is a r c = omega (arith, ints, clamps, units-is (pos a +ℤ c))

-- a charge with its change is the charge that the change leads to
pub changed_to : (a b : ℕ) (c : ℤ) → pos a +ℤ c ≡ pos b → changed a c ≡ b
changed_to a b c e = omega (arith, ints, units-is (pos a +ℤ c))
