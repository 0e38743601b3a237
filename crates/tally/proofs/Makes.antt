-- A tally as it is made.
use Rattle.std.proofs.Common.{◌≡◌, ℕ, ◌-◌, List, [], ◌∷◌, replicate, sym, refl, ap, ◌∙◌}
use Rattle.std.proofs.lemmas.List.{length-replicate}
use Rattle.charges.specs.declared.Row.{Row}
use Rattle.charges.specs.Tree.{blank}
use Rattle.rules.specs.declared.state.Kind.{Kind}
use Rattle.rules.specs.declared.state.Kind.TheVariants.{Folder}
use Rattle.rules.specs.declared.state.Contents.{Contents}
use Rattle.rules.specs.declared.state.Transaction.TheVariants.{Idle}
use Rattle.rules.specs.Book.{Dataset, root, fresh}
use Rattle.rules.proofs.Shapes.{rows-fresh, shaped_fresh}
use Rattle.tree.specs.declared.Tree.{Tree}
use Rattle.tree.specs.Parts.{kinds_of, Fresh}
use Rattle.tally.specs.Joined.{datasets_in, book_in, figures_in}
use Rattle.tally.specs.Sound.{Sound}
use Rattle.tally.proofs.Sounds.{sound_by}

alone : datasets_in (blank ∷ []) (Folder ∷ []) (replicate 64 root.contents) ≡ root ∷ []
unfolding datasets_in
alone = refl

module _ (tree : Tree) (room : ℕ) (f : Fresh room tree) (c : Contents) (e : c ≡ root.contents) where
  pub fresh-book : book_in tree (replicate 64 c) (replicate 32 Idle) ≡ fresh
  unfolding fresh
  fresh-book =
      ap (λ (ds : List Dataset). record { datasets = ds; transactions = replicate 32 Idle })
      (ap (λ (rs : List Row). datasets_in rs (kinds_of tree) (replicate 64 c)) f.rows_are
      ∙ ap (λ (ks : List Kind). datasets_in (blank ∷ []) ks (replicate 64 c)) f.kinds_are
      ∙ ap (λ (x : Contents). datasets_in (blank ∷ []) (Folder ∷ []) (replicate 64 x)) e ∙ alone)

  pub fresh-sound : (size slop worst : ℕ) → room ≡ size - slop → ∥ Sound size slop worst tree (replicate 64 c) (replicate 32 Idle) ∥₁
  fresh-sound size slop worst is =
      sound_by size slop worst tree (replicate 64 c) (replicate 32 Idle) (λ cost. fresh) (f.room_is ∙ is) (length-replicate 64 c)
      (λ cost. fresh-book)
      (λ cost. f.rows_are ∙ sym (rows-fresh (figures_in size slop worst cost)))
      (λ cost. shaped_fresh (figures_in size slop worst cost))
