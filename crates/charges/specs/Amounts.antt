-- The arithmetic of one dataset, over plain numbers: weight, unspent reservation, limit, excess, and the signed change rule.
use Rattle.std.specs.Prelude.{ℕ, ◌-◌, max, cond, ℤ, pos, negsuc, ◌+ℤ◌, ◌-ℤ◌, Some, None, Option, ◌==◌}
use Rattle.std.specs.Int.{int_max}

-- the room: the units of the pool that may be charged, its size less the slop (the units kept back)
abbrev pub room_of : ℕ → ℕ → ℕ
room_of size slop = size - slop

-- weight: what a dataset adds to its parent's charge, the larger of its charge and its reservation
abbrev pub weight_of : ℕ → ℕ → ℕ
weight_of charge reservation = max charge reservation

-- unspent reservation: the reservation less the charge, and 0 where the charge is larger
abbrev pub unspent_of : ℕ → ℕ → ℕ
unspent_of charge reservation = reservation - charge

-- limit: the root's is the room, any other dataset's is its quota, and a quota of 0 is none
abbrev pub limit_of : ℕ → ℕ → ℕ → Option ℕ
limit_of room d quota = cond (d == 0) (Some room) (cond (quota == 0) None (Some quota))

-- excess: by how much a charge passes a limit, 0 where it does not
abbrev pub excess : Option ℕ → ℕ → ℕ
excess None charge = 0
excess (Some limit) charge = charge - limit

-- The change rule: when the charge of a dataset changes by c, its parent's charge changes by this, a rise and a fall alike.
abbrev pub passed : ℕ → ℕ → ℤ → ℤ
passed before reservation c = int_max (pos before +ℤ c) (pos reservation) -ℤ int_max (pos before) (pos reservation)

-- when the reservation of a dataset goes from old to new, its parent's charge changes by this
abbrev pub reweighed : ℕ → ℕ → ℕ → ℤ
reweighed charge old new = pos (weight_of charge new) -ℤ pos (weight_of charge old)

-- a whole number of units, none below 0
abbrev pub units : ℤ → ℕ
units (pos n) = n
units (negsuc n) = 0

-- a charge with its change
abbrev pub changed : ℕ → ℤ → ℕ
changed before c = units (pos before +ℤ c)
