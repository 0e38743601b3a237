-- Who has each unit: entry u of the list is the holder of unit u.
use Rattle.std.specs.Prelude.{ℕ, Bool, true, false, cond, not, ◌&&◌, List, map, length, count_by, ◌==◌, slice_index_or}
use Rattle.std.specs.List.{range_with_len}
use Rattle.rules.specs.declared.state.Holder.{Holder}
use Rattle.rules.specs.declared.state.Holder.TheVariants.{Nobody, Record, Deferred}

abbrev pub same : Holder → Holder → Bool
same Nobody Nobody = true
same Nobody (Record v r) = false
same Nobody (Deferred v) = false
same (Record v r) Nobody = false
same (Record v r) (Record w s) = v == w && r == s
same (Record v r) (Deferred w) = false
same (Deferred v) Nobody = false
same (Deferred v) (Record w s) = false
same (Deferred v) (Deferred w) = v == w

-- how many units a holder has
abbrev pub count : Holder → List Holder → ℕ
count x hs = count_by (same x) hs

abbrev pub is_held : Holder → Bool
is_held Nobody = false
is_held (Record v r) = true
is_held (Deferred v) = true

abbrev pub is_deferred : Holder → Bool
is_deferred Nobody = false
is_deferred (Record v r) = false
is_deferred (Deferred v) = true

-- a unit of record r of volume v becomes one that v deferred; any other stays with its holder
abbrev pub defer : ℕ → ℕ → Holder → Holder
defer v r h = cond (same (Record v r) h) (Deferred v) h

-- a unit that was deferred becomes nobody's
abbrev pub release : Holder → Holder
release Nobody = Nobody
release (Record v r) = Record v r
release (Deferred v) = Nobody

-- a unit that is out after and was not before goes to h; any other stays with its holder
abbrev pub taken : Holder → Bool → Bool → Holder → Holder
taken h before after old = cond (after && not before) h old

-- the holders once the units that went out, from us to vs, are h's
unfoldable pub handed : Holder → List Bool → List Bool → List Holder → List Holder
handed h us vs hs = map (λ u. taken h (slice_index_or us u false) (slice_index_or vs u false) (slice_index_or hs u Nobody)) (range_with_len 0 (length hs))
