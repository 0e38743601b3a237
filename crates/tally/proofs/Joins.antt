-- The datasets of the book, and how they follow an edit of the rows, the kinds or the contents.
use Rattle.std.proofs.Common.{◌≡◌, ℕ, ◌<◌, ◌≢◌, List, [], ◌∷◌, ◌++◌, length, get_or, set, sym, refl, ap, ◌∙◌, inl, inr, arith}
use Rattle.std.proofs.lemmas.List.FromFn.{length-map-range_with_len, get_or-map-range_with_len, fill_by_all}
use Rattle.std.proofs.lemmas.List.{length-set, length_push, get_or-set_same, get_or-set_other, get_or_append_left, get_or_push}
use Rattle.std.proofs.lemmas.Bool.{cases_eq, cases_lt}
use Rattle.charges.specs.declared.Row.{Row}
use Rattle.charges.specs.Tree.{blank, row, with_own, with_quota as with_quota_in, with_reservation as with_reservation_in}
use Rattle.rules.specs.declared.state.Kind.{Kind}
use Rattle.rules.specs.declared.state.Kind.TheVariants.{Folder}
use Rattle.rules.specs.declared.state.Contents.{Contents}
use Rattle.rules.specs.Book.{Dataset, new}
use Rattle.rules.specs.Effects.{holding, with_quota, with_reservation}
use Rattle.rules.proofs.Rows.{nowhere}
use Rattle.tree.specs.Answers.{child, kind_in}
use Rattle.tally.specs.Joined.{no_contents, contents_at, dataset_at, datasets_in}

module _ (rs : List Row) (ks : List Kind) (cs : List Contents) where
  pub datasets-length : length (datasets_in rs ks cs) ≡ length rs
  unfolding datasets_in
  datasets-length = length-map-range_with_len (dataset_at rs ks cs) 0 (length rs)

  pub datasets-at : (d : ℕ) → d < length rs → get_or (datasets_in rs ks cs) d nowhere ≡ dataset_at rs ks cs d
  unfolding datasets_in
  datasets-at d l = get_or-map-range_with_len (dataset_at rs ks cs) 0 (length rs) d d nowhere l (omega arith)

  pub datasets_are : (ds : List Dataset) → length ds ≡ length rs → ((d : ℕ) → d < length rs → get_or ds d nowhere ≡ dataset_at rs ks cs d) → datasets_in rs ks cs ≡ ds
  unfolding datasets_in
  datasets_are ds long at = sym (fill_by_all (dataset_at rs ks cs) ds (length rs) nowhere long at)

module _ (rs rs' : List Row) (ks ks' : List Kind) (cs cs' : List Contents) (long : length rs' ≡ length rs) where
  -- none changes
  pub datasets-same : ((d : ℕ) → d < length rs → dataset_at rs' ks' cs' d ≡ dataset_at rs ks cs d) → datasets_in rs' ks' cs' ≡ datasets_in rs ks cs
  datasets-same same =
      datasets_are rs' ks' cs' (datasets_in rs ks cs) (datasets-length rs ks cs ∙ sym long)
      (λ d l. let lt : d < length rs = omega arith in datasets-at rs ks cs d lt ∙ sym (same d lt))

  -- one changes
  pub datasets-set : (v : ℕ) (x : Dataset) → v < length rs → ((d : ℕ) → d < length rs → d ≢ v → dataset_at rs' ks' cs' d ≡ dataset_at rs ks cs d) →
      dataset_at rs' ks' cs' v ≡ x → datasets_in rs' ks' cs' ≡ set (datasets_in rs ks cs) v x
  datasets-set v x lv elsewhere here =
      let ds = datasets_in rs ks cs in
      datasets_are rs' ks' cs' (set ds v x) (length-set ds v x ∙ datasets-length rs ks cs ∙ sym long)
      (λ d l.
      let lt : d < length rs = omega arith in
      elim (cases_eq d v) [
        | inl e ↦
            ap (λ (k : ℕ). get_or (set ds v x) k nowhere) e ∙ get_or-set_same ds v x nowhere (omega (arith, datasets-length rs ks cs)) ∙ sym here
            ∙ ap (dataset_at rs' ks' cs') (sym e)
        | inr ne ↦ get_or-set_other ds v d x nowhere ne ∙ datasets-at rs ks cs d lt ∙ sym (elsewhere d lt ne)
      ])

dataset_eq : {p p' q q' r r' : ℕ} {k k' : Kind} {c c' : Contents} → p ≡ p' → q ≡ q' → r ≡ r' → k ≡ k' → c ≡ c' →
    ◌≡◌ {A = Dataset} (record { parent = p; quota = q; reservation = r; kind = k; contents = c })
    (record { parent = p'; quota = q'; reservation = r'; kind = k'; contents = c' })
dataset_eq a b c d e = cc

-- a dataset with another row
abbrev on_row : Row → Kind → Contents → Dataset
on_row r k c = record { parent = r.parent; quota = r.quota; reservation = r.reservation; kind = k; contents = c }

module _ (rs : List Row) (ks : List Kind) (cs : List Contents) (v : ℕ) (lv : v < length rs) where
  row-elsewhere : (r : Row) (d : ℕ) → d ≢ v → dataset_at (set rs v r) ks cs d ≡ dataset_at rs ks cs d
  row-elsewhere r d ne = ap (λ (x : Row). on_row x (kind_in ks d) (contents_at cs d)) (get_or-set_other rs v d r blank ne)

  row_here : (r : Row) → dataset_at (set rs v r) ks cs v ≡ on_row r (kind_in ks v) (contents_at cs v)
  row_here r = ap (λ (x : Row). on_row x (kind_in ks v) (contents_at cs v)) (get_or-set_same rs v r blank lv)

  -- own units are not in the book
  pub datasets-own : (x : ℕ) → datasets_in (with_own rs v x) ks cs ≡ datasets_in rs ks cs
  datasets-own x =
      let r : Row = record { parent = (row rs v).parent; quota = (row rs v).quota; reservation = (row rs v).reservation; own = x } in
      datasets-same rs (set rs v r) ks ks cs cs (length-set rs v r)
      (λ d l. elim (cases_eq d v) [
        | inl e ↦ ap (dataset_at (set rs v r) ks cs) e ∙ row_here r ∙ ap (dataset_at rs ks cs) (sym e)
        | inr ne ↦ row-elsewhere r d ne
      ])

  pub datasets-quota : (u : ℕ) →
      datasets_in (with_quota_in rs v u) ks cs ≡ set (datasets_in rs ks cs) v (with_quota (get_or (datasets_in rs ks cs) v nowhere) u)
  datasets-quota u =
      let r : Row = record { parent = (row rs v).parent; quota = u; reservation = (row rs v).reservation; own = (row rs v).own } in
      datasets-set rs (set rs v r) ks ks cs cs (length-set rs v r) v _ lv (λ d l ne. row-elsewhere r d ne)
      (row_here r ∙ ap (λ (x : Dataset). with_quota x u) (sym (datasets-at rs ks cs v lv)))

  pub datasets-reservation : (u : ℕ) →
      datasets_in (with_reservation_in rs v u) ks cs ≡ set (datasets_in rs ks cs) v (with_reservation (get_or (datasets_in rs ks cs) v nowhere) u)
  datasets-reservation u =
      let r : Row = record { parent = (row rs v).parent; quota = (row rs v).quota; reservation = u; own = (row rs v).own } in
      datasets-set rs (set rs v r) ks ks cs cs (length-set rs v r) v _ lv (λ d l ne. row-elsewhere r d ne)
      (row_here r ∙ ap (λ (x : Dataset). with_reservation x u) (sym (datasets-at rs ks cs v lv)))

  pub datasets-contents : (c : Contents) → v < length cs →
      datasets_in rs ks (set cs v c) ≡ set (datasets_in rs ks cs) v (holding (get_or (datasets_in rs ks cs) v nowhere) c)
  datasets-contents c lc =
      datasets-set rs rs ks ks cs (set cs v c) refl v _ lv
      (λ d l ne. ap (on_row (row rs d) (kind_in ks d)) (get_or-set_other cs v d c no_contents ne))
      (ap (on_row (row rs v) (kind_in ks v)) (get_or-set_same cs v c no_contents lc) ∙ ap (λ (x : Dataset). holding x c) (sym (datasets-at rs ks cs v lv)))

-- a new dataset
pub datasets_push : (rs : List Row) (ks : List Kind) (cs : List Contents) (p : ℕ) (k : Kind) (c : Contents) → length ks ≡ length rs → length rs < length cs →
    datasets_in (rs ++ child p ∷ []) (ks ++ k ∷ []) (set cs (length rs) c) ≡ datasets_in rs ks cs ++ new p k c ∷ []
datasets_push rs ks cs p k c as_many lc =
    let n = length rs in
    let ds = datasets_in rs ks cs in
    let x = new p k c in
    let dl = datasets-length rs ks cs in
    datasets_are (rs ++ child p ∷ []) (ks ++ k ∷ []) (set cs n c) (ds ++ x ∷ []) (omega (arith, length_push ds x, length_push rs (child p)))
    (λ d l. elim (cases_lt d n) [
      | inl lt ↦
          let ne : d ≢ n = λ e. omega arith in
          let lk : d < length ks = omega arith in
          get_or_append_left ds (x ∷ []) nowhere d (omega arith) ∙ datasets-at rs ks cs d lt
          ∙ ap (λ (r : Row). on_row r (kind_in ks d) (contents_at cs d)) (sym (get_or_append_left rs (child p ∷ []) blank d lt))
          ∙ ap (λ (y : Kind). on_row (row (rs ++ child p ∷ []) d) y (contents_at cs d)) (sym (get_or_append_left ks (k ∷ []) Folder d lk))
          ∙ ap (on_row (row (rs ++ child p ∷ []) d) (kind_in (ks ++ k ∷ []) d)) (sym (get_or-set_other cs n d c no_contents ne))
      | inr ge ↦
          let last : d ≡ n = omega (arith, length_push rs (child p)) in
          get_or_push ds x nowhere d (omega arith)
          ∙ ap (λ (r : Row). on_row r k c) (sym (get_or_push rs (child p) blank d (sym last)))
          ∙ ap (λ (y : Kind). on_row (row (rs ++ child p ∷ []) d) y c) (sym (get_or_push ks k Folder d (omega arith)))
          ∙ ap (on_row (row (rs ++ child p ∷ []) d) (kind_in (ks ++ k ∷ []) d))
          (sym (ap (λ (j : ℕ). get_or (set cs n c) j no_contents) last ∙ get_or-set_same cs n c no_contents lc))
    ])
