-- A change on its way up, as a loop meets it: each turn leaves the same answer to come.
use Rattle.std.proofs.Common.{◌≡◌, ℕ, zero, suc, ◌^◌, ◌<◌, eqb, ◌≢◌, List, [], ◌∷◌, length, get_or, set, ℤ, Some, None, sym, refl, ap, ◌∙◌, subst, inl, inr, arith}
use Rattle.std.proofs.Math.ListN.{get_or-map}
use Rattle.std.proofs.Math.Seq.{map-set_same}
use Rattle.std.proofs.lemmas.List.{length-set, length-map, map-set, get_or-set_same, get_or-set_other}
use Rattle.std.proofs.lemmas.Bool.{cases_lt, eq-eqb, ne_eqb, cond-true, cond-false}
use Rattle.std.specs.List.{AllByRecursion}
use Rattle.charges.specs.declared.Row.{Row}
use Rattle.charges.specs.Amounts.{passed, changed}
use Rattle.charges.specs.Tree.{blank, row, Rooted, path}
use Rattle.charges.specs.Keep.{spread}
use Rattle.charges.proofs.Paths.{path_le, all_from_has, on_reaches}
use Rattle.charges.proofs.Spreads.{spread_equation}
use Rattle.rules.specs.declared.state.Kind.TheVariants.{Folder}
use Rattle.tree.specs.declared.node.Node.{Node}
use Rattle.tree.specs.declared.step.Arrival.{Arrival}
use Rattle.tree.specs.Steps.{onward_from}
use Rattle.tree.specs.Nodes.{rows_in, charges_in, SamePlaces, Settled}

abbrev above : Arrival → Node → Arrival
above at node = record { dataset = node.row.parent; change = passed node.charge node.row.reservation at.change }

-- what it says that a change goes on, or that it does not
pub record Onward (at : Arrival) (node : Node) (next : Arrival) : Type 0 where
  pub below : 0 < at.dataset
  pub parent_is : next.dataset ≡ node.row.parent
  pub change_is : next.change ≡ passed node.charge node.row.reservation at.change

pub goes_on : (at : Arrival) (node : Node) (next : Arrival) → Some next ≡ onward_from at node → Onward at node next
goes_on at node next e = elim (cases_lt 0 at.dataset) [
  | inl gt ↦
      let up = cond-false (eqb at.dataset 0) None (Some (above at node)) (ne_eqb at.dataset 0 (omega arith)) in
      let same : next ≡ above at node = cc in
      record { below = gt; parent_is = ap (λ (n : Arrival). n.dataset) same; change_is = ap (λ (n : Arrival). n.change) same }
  | inr root ↦
      let end = cond-true (eqb at.dataset 0) None (Some (above at node)) (eq-eqb at.dataset 0 (omega arith)) in
      let z : ◌≡◌ {A = ℕ} 0 1 = cc in absurd (omega arith)
]

pub stops : (at : Arrival) (node : Node) → None ≡ onward_from at node → at.dataset ≡ 0
stops at node e = elim (cases_lt 0 at.dataset) [
  | inl gt ↦
      let up = cond-false (eqb at.dataset 0) None (Some (above at node)) (ne_eqb at.dataset 0 (omega arith)) in
      let z : ◌≡◌ {A = ℕ} 0 1 = cc in absurd (omega arith)
  | inr root ↦ omega arith
]

-- a spread leaves what is not on its path
spread-off : (rows : List Row) (ds : List ℕ) (c : ℤ) (kept : List ℕ) (k : ℕ) → AllByRecursion (λ e. e ≢ k) ds → get_or (spread rows ds c kept) k 0 ≡ get_or kept k 0
unfolding spread
spread-off rows [] c kept k all = refl
spread-off rows (d ∷ ds) c kept k all = spread-off rows ds _ _ k all.1 ∙ get_or-set_other kept d k _ 0 (λ e. all.0 (sym e))

-- the datasets above d all have smaller numbers
above_less : (rows : List Row) → Rooted rows → (d : ℕ) → 0 < d → d < length rows → AllByRecursion (λ e. e ≢ d) (path rows (row rows d).parent)
above_less rows rooted d gt l =
    let below : (row rows d).parent < d = rooted d gt l in
    all_from_has (λ e. e ≢ d) (path rows (row rows d).parent)
    (λ e has same. omega (arith, path_le rows rooted (row rows d).parent e (omega arith) (on_reaches (row rows d).parent e has)))

-- what a spread puts at its first dataset
spread-first : (rows : List Row) → Rooted rows → (d : ℕ) (c : ℤ) (kept : List ℕ) → d < length rows → d < length kept →
    get_or (spread rows (path rows d) c kept) d 0 ≡ changed (get_or kept d 0) c
spread-first rows rooted zero c kept l lk = ap (λ xs. get_or xs 0 0) (spread_equation.root rows c kept) ∙ get_or-set_same kept 0 _ 0 lk
spread-first rows rooted (suc d) c kept l lk =
    ap (λ xs. get_or xs (suc d) 0) (spread_equation.upward rows rooted (suc d) c kept (omega arith) l)
    ∙ spread-off rows _ _ _ (suc d) (above_less rows rooted (suc d) (omega arith) l) ∙ get_or-set_same kept (suc d) _ 0 lk

-- The change c has come to d: with what is kept now, the spread from d on ends as the whole one.
pub record Settling (rows : List Row) (whole : List ℕ) (d : ℕ) (c : ℤ) (kept : List ℕ) : Type 0 where
  pub inside : d < length rows
  pub long : length kept ≡ length rows
  pub same : spread rows (path rows d) c kept ≡ whole

module _ (rows : List Row) (rooted : Rooted rows) (whole : List ℕ) (d : ℕ) (c : ℤ) (kept : List ℕ) (going : Settling rows whole d c kept) where
  pub written : get_or whole d 0 ≡ changed (get_or kept d 0) c
  written = ap (λ xs. get_or xs d 0) (sym going.same) ∙ spread-first rows rooted d c kept going.inside (omega (arith, going.long, going.inside))

  pub again : 0 < d → Settling rows whole (row rows d).parent (passed (get_or kept d 0) (row rows d).reservation c) (set kept d (changed (get_or kept d 0) c))
  again gt = record {
    inside = omega (arith, rooted d gt going.inside, going.inside);
    long = length-set kept d _ ∙ going.long;
    same = sym (spread_equation.upward rows rooted d c kept gt going.inside) ∙ going.same;
  }

pub settled : (rows : List Row) (whole : List ℕ) (c : ℤ) (kept : List ℕ) → Settling rows whole 0 c kept → set kept 0 (changed (get_or kept 0 0) c) ≡ whole
settled rows whole c kept going = sym (spread_equation.root rows c kept) ∙ going.same

-- a node that holds nothing
abbrev pub no_node : Node
no_node = record { row = blank; charge = 0; kind = Folder }

-- a node with another charge
abbrev pub charged : Node → ℕ → Node
charged node x = record { row = node.row; charge = x; kind = node.kind }

-- The same over the nodes: now is old but for the charges that are kept.
pub record Coming (old : List Node) (whole : List ℕ) (at : Arrival) (now : List Node) : Type 0 where
  pub inside : at.dataset < length now
  pub places : SamePlaces old now
  pub going : Settling (rows_in old) whole at.dataset at.change (charges_in now)

pub first : (nodes : List Node) (at : Arrival) → at.dataset < length nodes →
    Coming nodes (spread (rows_in nodes) (path (rows_in nodes) at.dataset) at.change (charges_in nodes)) at nodes
first nodes at l = record {
  inside = l;
  places = record { same_rows = refl; same_kinds = refl };
  going = record {
    inside = omega (arith, length-map nodes (λ n. n.row));
    long = length-map nodes (λ n. n.charge) ∙ sym (length-map nodes (λ n. n.row));
    same = refl;
  };
}

module _ (old : List Node) (whole : List ℕ) (at : Arrival) (now : List Node) (rooted : Rooted (rows_in old)) (come : Coming old whole at now)
    (i : ℕ) (is : i ≡ at.dataset) where
  abbrev node : Node
  node = get_or now i no_node

  read : node ≡ get_or now at.dataset no_node
  read = ap (λ j. get_or now j no_node) is

  read_charge : get_or (charges_in now) at.dataset 0 ≡ node.charge
  read_charge = get_or-map (λ n. n.charge) now at.dataset no_node ∙ ap (λ (n : Node). n.charge) (sym read)

  read_row : row (rows_in old) at.dataset ≡ node.row
  read_row =
      ap (λ rows. row rows at.dataset) (sym come.places.same_rows) ∙ get_or-map (λ n. n.row) now at.dataset no_node ∙ ap (λ (n : Node). n.row) (sym read)

  -- what is written is what the whole spread leaves there
  pub come_fits : ((k : ℕ) → get_or whole k 0 < 2 ^ 16) → (x : ℕ) → x ≡ changed node.charge at.change → x < 2 ^ 16
  come_fits small x e =
      let same : get_or whole at.dataset 0 ≡ x =
      written (rows_in old) rooted whole at.dataset at.change (charges_in now) come.going ∙ ap (λ y. changed y at.change) read_charge ∙ sym e in
      subst (λ n. n < 2 ^ 16) same (small at.dataset)

  module _ (x : ℕ) (e : x ≡ changed node.charge at.change) where
    put : set (charges_in now) at.dataset (changed (get_or (charges_in now) at.dataset 0) at.change) ≡ charges_in (set now i (charged node x))
    put = ap (set (charges_in now) at.dataset) (ap (λ y. changed y at.change) read_charge ∙ sym e) ∙ sym (ap (λ j. set (charges_in now) j x) is)
        ∙ sym (map-set (λ n. n.charge) now i (charged node x))

    places_on : SamePlaces old (set now i (charged node x))
    places_on = record {
      same_rows = map-set_same (λ n. n.row) now i (charged node x) no_node refl ∙ come.places.same_rows;
      same_kinds = map-set_same (λ n. n.kind) now i (charged node x) no_node refl ∙ come.places.same_kinds;
    }

    pub come_on : (next : Arrival) → Some next ≡ onward_from at node → Coming old whole next (set now i (charged node x))
    come_on next some =
        let on = goes_on at node next some in
        let going = again (rows_in old) rooted whole at.dataset at.change (charges_in now) come.going on.below in
        let parent : (row (rows_in old) at.dataset).parent ≡ next.dataset = ap (λ (r : Row). r.parent) read_row ∙ sym on.parent_is in
        let change : passed (get_or (charges_in now) at.dataset 0) (row (rows_in old) at.dataset).reservation at.change ≡ next.change =
        ap (λ y. passed y (row (rows_in old) at.dataset).reservation at.change) read_charge
        ∙ ap (λ (r : Row). passed node.charge r.reservation at.change) read_row ∙ sym on.change_is in
        record {
          inside = omega (arith, rooted at.dataset on.below come.going.inside, come.inside, length-set now i (charged node x));
          places = places_on;
          going = subst (λ q. Settling (rows_in old) whole q next.change (charges_in (set now i (charged node x)))) parent
              (subst (λ y. Settling (rows_in old) whole (row (rows_in old) at.dataset).parent y (charges_in (set now i (charged node x)))) change
              (subst (λ ks. Settling (rows_in old) whole (row (rows_in old) at.dataset).parent (passed (get_or (charges_in now) at.dataset 0) (row (rows_in old) at.dataset).reservation at.change) ks) put going));
        }

    pub come_done : None ≡ onward_from at node → (arrival : Arrival) → whole ≡ spread (rows_in old) (path (rows_in old) arrival.dataset) arrival.change (charges_in old) →
        Settled old (set now i (charged node x)) arrival
    come_done none arrival end = let root = stops at node none in record {
      places = places_on;
      charges_are =
          sym put
          ∙ ap (λ j. set (charges_in now) j (changed (get_or (charges_in now) j 0) at.change)) root
          ∙ settled (rows_in old) whole at.change (charges_in now) (subst (λ j. Settling (rows_in old) whole j at.change (charges_in now)) root come.going) ∙ end;
    }

  pub come_less : (next : Arrival) → Some next ≡ onward_from at node → next.dataset < at.dataset
  come_less next some =
      let on = goes_on at node next some in
      let parent : (row (rows_in old) at.dataset).parent ≡ next.dataset = ap (λ (r : Row). r.parent) read_row ∙ sym on.parent_is in
      omega (arith, rooted at.dataset on.below come.going.inside)
