-- What an accepted order does to the holders of units: from the units out before and after it, never from a count.
use Rattle.std.specs.Prelude.{ℕ, zero, suc, ◌-◌, Bool, List, map}
use Rattle.orders.specs.Meaning.{Meaning, folder, volume, quota, reserve, resize, begin, hold_writes, hold_frees, assign, abort, write, free, commit, turn, tell}
use Rattle.rules.specs.declared.state.Holder.{Holder}
use Rattle.rules.specs.declared.state.Holder.TheVariants.{Record}
use Rattle.rules.specs.Book.{Book, transaction, records, volume_of}
use Rattle.rules.specs.Holders.{defer, release, handed}

-- the units of n records of volume v from r on are deferred, one record after the other
unfoldable pub defer_from : ℕ → ℕ → ℕ → List Holder → List Holder
defer_from v r zero hs = hs
defer_from v r (suc n) hs = defer_from v (suc r) n (map (defer v r) hs)

-- us and vs are the units out before and after the order
abbrev pub mark : Book → Meaning → List Bool → List Bool → List Holder → List Holder
mark b (folder p n) us vs hs = hs
mark b (volume p r n) us vs hs = hs
mark b (quota d u) us vs hs = hs
mark b (reserve d u) us vs hs = hs
mark b (resize v n) us vs hs = defer_from v n (records b v - n) hs
mark b (begin t v) us vs hs = hs
mark b (hold_writes t n) us vs hs = hs
mark b (hold_frees t n) us vs hs = hs
mark b (assign t) us vs hs = hs
mark b (abort t) us vs hs = hs
mark b (write t r s) us vs hs = handed (Record (volume_of (transaction b t)) r) us vs (map (defer (volume_of (transaction b t)) r) hs)
mark b (free t r) us vs hs = map (defer (volume_of (transaction b t)) r) hs
mark b (commit t) us vs hs = hs
mark b turn us vs hs = map release hs
mark b (tell d) us vs hs = hs
