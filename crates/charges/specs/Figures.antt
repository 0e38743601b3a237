-- Worked figures of the definitions, computed.
use Rattle.std.specs.Prelude.{◌≡◌, List, [], ◌∷◌, map, pos, negsuc, Some, None}
use Rattle.charges.specs.declared.Row.{Row}
use Rattle.charges.specs.Amounts.{room_of, weight_of, unspent_of, limit_of, excess, passed, reweighed, changed}
use Rattle.charges.specs.Tree.{Rooted, charge, weight, unspent, children, limit, WithinLimits, Reserved, path, with_own, with_reservation}
use Rattle.charges.specs.Walk.{walk, first_past}

-- the root; in it a folder with quota 120; in that a folder without quota and with reservation 40, and a volume with 30 own units;
-- in the inner folder two volumes, one with 10 own units, one with reservation 16 and 8 own units
abbrev pub sample : List Row
sample =
    record { parent = 0; quota = 0; reservation = 0; own = 0 } ∷ record { parent = 0; quota = 120; reservation = 0; own = 0 }
    ∷ record { parent = 1; quota = 0; reservation = 40; own = 0 } ∷ record { parent = 1; quota = 0; reservation = 0; own = 30 }
    ∷ record { parent = 2; quota = 0; reservation = 0; own = 10 } ∷ record { parent = 2; quota = 24; reservation = 16; own = 8 } ∷ []

pub record Figures : Type 0 where
  -- plain numbers: a reservation of 40
  pub room : room_of 100 4 ≡ 96
  pub weights : map (λ c. weight_of c 40) (10 ∷ 40 ∷ 50 ∷ []) ≡ 40 ∷ 40 ∷ 50 ∷ []
  pub unspents : map (λ c. unspent_of c 40) (10 ∷ 40 ∷ 50 ∷ []) ≡ 30 ∷ 0 ∷ 0 ∷ []
  pub root_limit : limit_of 96 0 7 ≡ Some 96
  pub quota_limit : limit_of 96 1 80 ≡ Some 80
  pub no_limit : limit_of 96 1 0 ≡ None
  pub excesses : map (excess (Some 80)) (79 ∷ 80 ∷ 81 ∷ []) ≡ 0 ∷ 0 ∷ 1 ∷ []
  pub no_excess : excess None 4096 ≡ 0
  pub rises : map (λ c. passed c 40 (pos 32)) (8 ∷ 32 ∷ 50 ∷ []) ≡ pos 0 ∷ pos 24 ∷ pos 32 ∷ []
  pub falls : map (λ c. passed c 40 (negsuc 19)) (40 ∷ 50 ∷ 70 ∷ []) ≡ pos 0 ∷ negsuc 9 ∷ negsuc 19 ∷ []
  pub reserves : map (reweighed 50 40) (30 ∷ 60 ∷ []) ≡ pos 0 ∷ pos 10 ∷ []
  pub unreserves : map (reweighed 50 70) (60 ∷ 0 ∷ []) ≡ negsuc 9 ∷ negsuc 19 ∷ []
  -- under a quota of 80, 32 more fit at 48 and are one too many at 49
  pub shorts : map (λ c. excess (limit_of 96 1 80) (changed c (pos 32))) (48 ∷ 49 ∷ []) ≡ 0 ∷ 1 ∷ []
  pub with_change : map (λ c. changed 48 c) (pos 32 ∷ negsuc 19 ∷ []) ≡ 80 ∷ 28 ∷ []
  -- the sample tree, of which what the theorems ask holds
  pub sample_rooted : Rooted sample
  pub sample_within : WithinLimits 140 sample
  pub sample_reserved : Reserved sample
  pub charges : map (charge sample) (0 ∷ 1 ∷ 2 ∷ 3 ∷ 4 ∷ 5 ∷ []) ≡ 70 ∷ 70 ∷ 26 ∷ 30 ∷ 10 ∷ 8 ∷ []
  pub sample_weights : map (weight sample) (0 ∷ 1 ∷ 2 ∷ 3 ∷ 4 ∷ 5 ∷ []) ≡ 70 ∷ 70 ∷ 40 ∷ 30 ∷ 10 ∷ 16 ∷ []
  pub sample_unspents : map (unspent sample) (0 ∷ 1 ∷ 2 ∷ 3 ∷ 4 ∷ 5 ∷ []) ≡ 0 ∷ 0 ∷ 14 ∷ 0 ∷ 0 ∷ 8 ∷ []
  pub limits : map (limit 140 sample) (0 ∷ 1 ∷ 2 ∷ 5 ∷ []) ≡ Some 140 ∷ Some 120 ∷ None ∷ Some 24 ∷ []
  pub folder_children : map (children sample) (0 ∷ 1 ∷ 2 ∷ 3 ∷ []) ≡ (1 ∷ []) ∷ (2 ∷ 3 ∷ []) ∷ (4 ∷ 5 ∷ []) ∷ [] ∷ []
  pub paths : map (path sample) (0 ∷ 3 ∷ 5 ∷ []) ≡ (0 ∷ []) ∷ (3 ∷ 1 ∷ 0 ∷ []) ∷ (5 ∷ 2 ∷ 1 ∷ 0 ∷ []) ∷ []
  -- a rise at the volume 4: 64 arrive there and at 2, where 14 are unspent, and 50 at 1 and at the root
  pub granted : walk 140 sample 4 (pos 64) ≡ None
  pub quota_short : walk 140 sample 4 (pos 68) ≡ Some (1, 4)
  pub root_short : walk 110 sample 4 (pos 64) ≡ Some (0, 10)
  pub recomputed : first_past 110 (with_own sample 4 74) (path sample 4) ≡ Some (0, 10)
  -- a fall passes nothing on below a reservation
  pub fallen : charge (with_own sample 4 0) 1 ≡ 70
  -- a larger reservation of the inner folder, from its parent up
  pub reserved : walk 140 sample 1 (reweighed 26 40 95) ≡ Some (1, 5)
  pub reserved_charge : charge (with_reservation sample 2 95) 1 ≡ 125
