-- What a tree's fields owe after each write.
use Rattle.std.proofs.Common.{◌≡◌, ℕ, zero, suc, ◌^◌, ◌<◌, ◌≤◌, true, ◌≢◌, List, [], ◌∷◌, ◌++◌, length, get_or, set, ℤ, pos, ◌-ℤ◌, sym, refl, ap, ◌∙◌, subst, arith}
use Rattle.std.proofs.Math.ListN.{get_or-map}
use Rattle.std.proofs.Math.Seq.{map-set_same}
use Rattle.std.proofs.lemmas.List.{length-set, length-map, length_push, map-set, map-append, get_or_append_left}
use Rattle.arrayvec.specs.ArrayVec.{with_items}
use Rattle.arrayvec.proofs.ArrayVecLemmas.{items-with_items}
use Rattle.charges.specs.declared.Row.{Row}
use Rattle.charges.specs.Amounts.{reweighed}
use Rattle.charges.specs.Tree.{blank, row, Rooted, charge, load, Within, WithinLimits, path, with_own, with_reservation, with_quota}
use Rattle.charges.specs.Keep.{spread}
use Rattle.rules.specs.declared.state.Kind.{Kind}
use Rattle.rules.specs.declared.state.Kind.TheVariants.{Folder}
use Rattle.tree.specs.Fields.{Sized, Kept, InQuotas, FreeRoot, is_folder}
use Rattle.tree.specs.declared.Tree.{Tree}
use Rattle.tree.specs.declared.node.Node.{Node}
use Rattle.tree.specs.declared.step.Arrival.{Arrival}
use Rattle.tree.specs.Nodes.{rows_in, charges_in, kinds_in, SamePlaces, Settled}
use Rattle.tree.specs.Parts.{room_of, rows_of, charges_of, kinds_of}
use Rattle.tree.specs.Answers.{child, reservation_arrival}
use Rattle.tree.proofs.Settling.{no_node}
use Rattle.tree.proofs.Fine.{Fine, fine, count, kind-count, fine-own, fine-reservation, fine-quota, fine-new, kept_small}

abbrev pub Ghosts : ℕ → List Node → Type 0
Ghosts room nodes = record {
  sized : Sized room (length nodes);
  rooted : Rooted (rows_in nodes);
  kept : Kept (rows_in nodes) (charges_in nodes);
  within : WithinLimits room (rows_in nodes);
  reserved : InQuotas (rows_in nodes);
  root : FreeRoot (rows_in nodes) (kinds_in nodes);
}

ghosts : (room : ℕ) (nodes : List Node) → Sized room (length nodes) → Fine room (rows_in nodes) (charges_in nodes) →
    is_folder (get_or (kinds_in nodes) 0 Folder) ≡ true → Ghosts room nodes
ghosts room nodes sized f folder = record {
  sized = sized;
  rooted = f.rooted;
  kept = f.keeps.right;
  within = f.within;
  reserved = f.reserved;
  root = (f.root_reservation, f.root_quota, folder);
}

-- a node with its row edited
abbrev pub with_row : Node → (Row → Row) → Node
with_row node f = record { row = f node.row; charge = node.charge; kind = node.kind }

-- the nodes with the row of d edited
abbrev pub edited : List Node → ℕ → (Row → Row) → List Node
edited nodes d f = set nodes d (with_row (get_or nodes d no_node) f)

-- what is settled through a slice that shows the old nodes is settled in them
pub settled_from : (seen old now : List Node) (a b : Arrival) → seen ≡ old → a ≡ b → Settled seen now a → Settled old now b
settled_from seen old now a b e same settled = subst (λ nodes. Settled nodes now b) e (subst (Settled seen now) same settled)

-- after the row of d is edited through the slice, and the charges before it
module _ (t : Tree) (now : List Node) (same : SamePlaces t.nodes.items now) (d i : ℕ) (at : i ≡ d) (f : Row → Row) where
  as_long : length (edited now i f) ≡ length t.nodes.items
  as_long = length-set now i _ ∙ sym (length-map now (λ n. n.row)) ∙ ap length same.same_rows ∙ length-map t.nodes.items (λ n. n.row)

  written : (with_items t.nodes (edited now i f)).items ≡ edited now d f
  written = items-with_items t.nodes (edited now i f) as_long ∙ ap (λ j. edited now j f) at

  pub edited-rows : rows_in (with_items t.nodes (edited now i f)).items ≡ set (rows_of t) d (f (row (rows_of t) d))
  edited-rows =
      ap rows_in written ∙ map-set (λ n. n.row) now d _
      ∙ ap (λ r. set (rows_in now) d (f r)) (sym (get_or-map (λ n. n.row) now d no_node))
      ∙ ap (λ rows. set rows d (f (row rows d))) same.same_rows

  pub edited_kinds : kinds_in (with_items t.nodes (edited now i f)).items ≡ kinds_of t
  edited_kinds = ap kinds_in written ∙ map-set_same (λ n. n.kind) now d _ no_node refl ∙ same.same_kinds

  edited_charges : charges_in (with_items t.nodes (edited now i f)).items ≡ charges_in now
  edited_charges = ap charges_in written ∙ map-set_same (λ n. n.charge) now d _ no_node refl

  edited-ghosts : Fine (room_of t) (set (rows_of t) d (f (row (rows_of t) d))) (charges_in now) → Ghosts (room_of t) (with_items t.nodes (edited now i f)).items
  edited-ghosts fine' =
      ghosts (room_of t) (with_items t.nodes (edited now i f)).items
      (subst (Sized (room_of t)) (sym (ap length (items-with_items t.nodes (edited now i f) as_long) ∙ as_long)) t.sized)
      (subst (λ rs. Fine (room_of t) rs (charges_in (with_items t.nodes (edited now i f)).items)) (sym edited-rows)
      (subst (Fine (room_of t) (set (rows_of t) d (f (row (rows_of t) d)))) (sym edited_charges) fine'))
      (ap (λ ks. is_folder (get_or ks 0 Folder)) edited_kinds ∙ t.root.2)

abbrev pub put_own : ℕ → Row → Row
put_own x r = record { parent = r.parent; quota = r.quota; reservation = r.reservation; own = x }

abbrev pub put_reservation : ℕ → Row → Row
put_reservation x r = record { parent = r.parent; quota = r.quota; reservation = x; own = r.own }

abbrev pub put_quota : ℕ → Row → Row
put_quota x r = record { parent = r.parent; quota = x; reservation = r.reservation; own = r.own }

pub nothing-moved : (old now : List Node) → now ≡ old → SamePlaces old now
nothing-moved old now e = record { same_rows = ap rows_in e; same_kinds = ap kinds_in e }

pub quota-ghosts : (t : Tree) (d i x : ℕ) (now : List Node) → now ≡ t.nodes.items → i ≡ d → d < length (rows_of t) → 0 < d →
    (x ≢ 0 → (charge (rows_of t) d ≤ x) × ((row (rows_of t) d).reservation ≤ x)) → Ghosts (room_of t) (with_items t.nodes (edited now i (put_quota x))).items
quota-ghosts t d i x now e at l gt enough =
    edited-ghosts t now (nothing-moved t.nodes.items now e) d i at (put_quota x)
    (subst (λ kept. Fine (room_of t) (with_quota (rows_of t) d x) kept) (ap charges_in (sym e)) (fine-quota (room_of t) (rows_of t) (charges_of t) (fine t) d x l gt enough))

-- other own units, put in at their dataset
abbrev pub own_arrival : Tree → ℕ → ℕ → Arrival
own_arrival t d x = record { dataset = d; change = pos x -ℤ pos (row (rows_of t) d).own }

pub own_arrives : (t : Tree) (d x : ℕ) (r : Row) (z k : ℤ) → r ≡ row (rows_of t) d → z ≡ pos x -ℤ pos r.own → k ≡ z →
    ◌≡◌ {A = Arrival} (record { dataset = d; change = k }) (own_arrival t d x)
own_arrives t d x r z k is_row e same = ap (λ (c : ℤ). record { dataset = d; change = c }) (same ∙ e ∙ ap (λ (q : Row). pos x -ℤ pos q.own) is_row)

-- the charges once a change is put in
abbrev spread_in : Tree → Arrival → List ℕ
spread_in t at = spread (rows_of t) (path (rows_of t) at.dataset) at.change (charges_of t)

module _ (t : Tree) (d x : ℕ) (l : d < length (rows_of t)) (within : WithinLimits (room_of t) (with_own (rows_of t) d x)) where
  own-fine : Fine (room_of t) (with_own (rows_of t) d x) (spread_in t (own_arrival t d x))
  own-fine = fine-own (room_of t) (rows_of t) (charges_of t) (fine t) d x l within

  pub own-fits : (j : ℕ) → get_or (spread_in t (own_arrival t d x)) j 0 < 2 ^ 16
  own-fits = kept_small (room_of t) (with_own (rows_of t) d x) (spread_in t (own_arrival t d x)) own-fine t.sized.0

  pub own-ghosts : (now : List Node) → Settled t.nodes.items now (own_arrival t d x) → (i : ℕ) → i ≡ d →
      Ghosts (room_of t) (with_items t.nodes (edited now i (put_own x))).items
  own-ghosts now s i at =
      edited-ghosts t now s.places d i at (put_own x) (subst (λ ks. Fine (room_of t) (with_own (rows_of t) d x) ks) (sym s.charges_are) own-fine)

module _ (t : Tree) (d x : ℕ) (l : d < length (rows_of t)) (gt : 0 < d) (allowed : (row (rows_of t) d).quota ≢ 0 → x ≤ (row (rows_of t) d).quota)
    (within : WithinLimits (room_of t) (with_reservation (rows_of t) d x)) where
  reservation-fine : Fine (room_of t) (with_reservation (rows_of t) d x) (spread_in t (reservation_arrival (rows_of t) d x))
  reservation-fine =
      subst (λ n. Fine (room_of t) (with_reservation (rows_of t) d x) (spread (rows_of t) (path (rows_of t) (row (rows_of t) d).parent) (reweighed n (row (rows_of t) d).reservation x) (charges_of t)))
      (t.kept d l) (fine-reservation (room_of t) (rows_of t) (charges_of t) (fine t) d x l gt allowed within)

  pub reservation-fits : (j : ℕ) → get_or (spread_in t (reservation_arrival (rows_of t) d x)) j 0 < 2 ^ 16
  reservation-fits = kept_small (room_of t) (with_reservation (rows_of t) d x) (spread_in t (reservation_arrival (rows_of t) d x)) reservation-fine t.sized.0

  pub reservation-ghosts : (now : List Node) → Settled t.nodes.items now (reservation_arrival (rows_of t) d x) → (i : ℕ) → i ≡ d →
      Ghosts (room_of t) (with_items t.nodes (edited now i (put_reservation x))).items
  reservation-ghosts now s i at =
      edited-ghosts t now s.places d i at (put_reservation x) (subst (λ ks. Fine (room_of t) (with_reservation (rows_of t) d x) ks) (sym s.charges_are) reservation-fine)

-- one more dataset
abbrev pub grown : List Node → ℕ → Kind → List Node
grown nodes parent kind = nodes ++ record { row = child parent; charge = 0; kind = kind } ∷ []

module _ (nodes : List Node) (parent : ℕ) (kind : Kind) where
  pub grown-rows : rows_in (grown nodes parent kind) ≡ rows_in nodes ++ child parent ∷ []
  grown-rows = map-append (λ n. n.row) nodes _

  grown-charges : charges_in (grown nodes parent kind) ≡ charges_in nodes ++ 0 ∷ []
  grown-charges = map-append (λ n. n.charge) nodes _

  pub grown_kinds : kinds_in (grown nodes parent kind) ≡ kinds_in nodes ++ kind ∷ []
  grown_kinds = map-append (λ n. n.kind) nodes _

pub grown-ghosts : (t : Tree) (parent : ℕ) (kind : Kind) → parent < length (rows_of t) → length (rows_of t) < 64 → Ghosts (room_of t) (grown t.nodes.items parent kind)
grown-ghosts t parent kind l vacant =
    let some : 0 < length (rows_of t) = omega arith in
    let new = fine-new (room_of t) (rows_of t) (charges_of t) (fine t) (child parent) some l refl refl refl in
    let first : get_or (kinds_of t ++ kind ∷ []) 0 Folder ≡ get_or (kinds_of t) 0 Folder =
    get_or_append_left (kinds_of t) (kind ∷ []) Folder 0 (omega (arith, kind-count t)) in
    ghosts (room_of t) (grown t.nodes.items parent kind)
    (t.sized.0, omega (arith, length_push t.nodes.items (record { row = child parent; charge = 0; kind = kind })), omega (arith, count t, length_push t.nodes.items (record { row = child parent; charge = 0; kind = kind })))
    (subst (λ rs. Fine (room_of t) rs (charges_in (grown t.nodes.items parent kind))) (sym (grown-rows t.nodes.items parent kind))
    (subst (λ ks. Fine (room_of t) (rows_of t ++ child parent ∷ []) ks) (sym (grown-charges t.nodes.items parent kind)) new))
    (ap (λ ks. is_folder (get_or ks 0 Folder)) (grown_kinds t.nodes.items parent kind) ∙ ap is_folder first ∙ t.root.2)

-- the root alone: nothing is charged
module _ (room : ℕ) where
  first_kept : (d : ℕ) → d < 1 → get_or {A = ℕ} (0 ∷ []) d 0 ≡ charge (blank ∷ []) d
  unfolding charge load
  first_kept zero l = refl
  first_kept (suc d) l = absurd (omega arith)

  first_within : (d : ℕ) → d < 1 → Within room (blank ∷ []) d
  unfolding charge load
  first_within zero l = omega arith
  first_within (suc d) l = absurd (omega arith)

  first_quota : (d : ℕ) → d < 1 → (get_or (blank ∷ []) d blank).quota ≡ 0
  first_quota zero l = refl
  first_quota (suc d) l = absurd (omega arith)

  pub fresh-ghosts : room < 2 ^ 16 → Ghosts room (no_node ∷ [])
  fresh-ghosts small = record {
    sized = (small, omega arith, omega arith);
    rooted = λ k gt l. absurd (omega arith);
    kept = first_kept;
    within = first_within;
    reserved = λ d l some. absurd (some (first_quota d l));
    root = (refl, refl, refl);
  }
