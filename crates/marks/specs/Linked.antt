-- The units of one holder: the entries of the table go from its head through exactly these units, each once.
use Rattle.std.specs.Prelude.{◌≡◌, ℕ, ◌+◌, ◌*◌, ◌<◌, Bool, true, List, length, slice_index, slice_index_or}
use Rattle.pool.specs.Links.{Among, Threads}
use Rattle.rules.specs.Holders.{same, is_deferred}
use Rattle.rules.specs.declared.state.Holder.{Holder}
use Rattle.rules.specs.declared.state.Holder.TheVariants.{Nobody, Record, Deferred}

-- a holder that the table has a place for: 64 records of 64 volumes
abbrev pub Named : Holder → Type 0
Named Nobody = Unit {0}
Named (Record v r) = (v < 64) × (r < 64)
Named (Deferred v) = v < 64

-- of n units, from the head on, the entries go through those whose holder passes the test
pub record Chained (n : ℕ) (hs : List Holder) (next : List ℕ) (head : ℕ) (p : Holder → Bool) : Type 0 where
  pub units : List ℕ
  pub threads : Threads next n head units
  pub own : (u : ℕ) → Among u units → p (slice_index_or hs u Nobody) ≡ true
  pub all : (u : ℕ) → p (slice_index_or hs u Nobody) ≡ true → Among u units

-- the units of each record are linked from its head, and all deferred units from theirs
pub record Linked (n : ℕ) (hs : List Holder) (next first : List ℕ) (d : ℕ) : Type 0 where
  pub long : length hs ≡ n
  pub wide : length next ≡ 4096
  pub heads : length first ≡ 4096
  pub named : (u : ℕ) → Named (slice_index_or hs u Nobody)
  pub records : (v r : ℕ) → v < 64 → r < 64 → Chained n hs next (slice_index first (v * 64 + r)) (same (Record v r))
  pub deferred : Chained n hs next d is_deferred
