-- A unit is out exactly where it has a holder.
use Rattle.std.specs.Prelude.{◌≡◌, ℕ, Bool, false, List, slice_index_or}
use Rattle.rules.specs.Holders.{is_held}
use Rattle.rules.specs.declared.state.Holder.{Holder}
use Rattle.rules.specs.declared.state.Holder.TheVariants.{Nobody}

abbrev pub Held : List Bool → List Holder → Type 0
Held us hs = (u : ℕ) → slice_index_or us u false ≡ is_held (slice_index_or hs u Nobody)
