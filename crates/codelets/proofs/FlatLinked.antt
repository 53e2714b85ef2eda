-- A statement list is linked, and its graph's rows are its reach.
use Rattle.std.proofs.Common.{◌≡◌, ℕ, ◌&&◌, nat_lt, List, length, sym, ◌∙◌, ap, subst}
use Rattle.dom_flat.specs.declared.flat.Flat.{Flat}
use Rattle.dep_graph.specs.Leads.{leads}
use Rattle.dep_graph.specs.Rows.{cell}
use Rattle.dep_graph.specs.Walk.{IsReach}
use Rattle.dep_graph.proofs.Marked.{leads_within}
use Rattle.dep_graph.proofs.Through.{reach_among, reach_is}
use Rattle.dom_flat.specs.Form.{flat_form}
use Rattle.codelets.specs.Flat.{linked, linked_of, reach_of}
use Rattle.codelets.specs.Linked.{IsLinked}
use Rattle.codelets.specs.ByRows.{linked_by, reaches_in}

pub reach_by_walks : (flat : Flat) → IsReach (leads (length flat.fields) flat.lines) (length flat.lines) (reach_of (flat_form flat))
reach_by_walks flat = reach_among (leads (length flat.fields) flat.lines) (length flat.lines) (leads_within (length flat.fields) flat.lines)

pub flat_linked : (flat : Flat) → IsLinked (linked_of flat)
flat_linked flat = record {
  ranges = flat.ranges;
  order = flat.order;
  flanks = flat.flanks;
  known_outputs = flat.known_outputs;
  reaching = reach_by_walks flat;
}

-- the rows of its graph say the same
pub rows_are : (flat : Flat) (rows : List (List ℕ)) → length rows ≡ length flat.lines → IsReach (leads (length flat.fields) flat.lines) (length flat.lines) (cell rows) → reaches_in rows ≡ reach_of (flat_form flat)
rows_are flat rows size is =
    ap (λ (n : ℕ). λ (a b : ℕ). nat_lt a n && (nat_lt b n && cell rows a b)) size
    ∙ reach_is (leads (length flat.fields) flat.lines) (length flat.lines) (cell rows) (leads_within (length flat.fields) flat.lines) is

pub linked_rows : (flat : Flat) (rows : List (List ℕ)) → length rows ≡ length flat.lines → IsReach (leads (length flat.fields) flat.lines) (length flat.lines) (cell rows) → linked_by flat rows ≡ linked_of flat
linked_rows flat rows size is = ap (linked (flat_form flat)) (rows_are flat rows size is)

pub rows_linked : (flat : Flat) (rows : List (List ℕ)) → length rows ≡ length flat.lines → IsReach (leads (length flat.fields) flat.lines) (length flat.lines) (cell rows) → IsLinked (linked_by flat rows)
rows_linked flat rows size is = subst IsLinked (sym (linked_rows flat rows size is)) (flat_linked flat)
