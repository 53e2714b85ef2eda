-- The codelets of a statement list.
use Rattle.std.specs.Prelude.{ℕ, Bool, length}
use Rattle.dom_flat.specs.declared.flat.Flat.{Flat}
use Rattle.dom_flat.specs.Form.{FlatForm, flat_form}
use Rattle.dep_graph.specs.Leads.{leads}
use Rattle.dep_graph.specs.Walk.{reaches_among}
use Rattle.codelets.specs.Linked.{Linked}
use Rattle.codelets.specs.Cut.{Cut, cut}

abbrev pub linked : FlatForm → (ℕ → ℕ → Bool) → Linked
linked form reach = record { fields = form.fields; arrays = form.arrays; lines = form.lines; outputs = form.outputs; reach = reach }

-- whether a walk leads from one statement to another
abbrev pub reach_of : FlatForm → ℕ → ℕ → Bool
reach_of form = reaches_among (leads form.fields form.lines) (length form.lines)

abbrev pub linked_form : FlatForm → Linked
linked_form form = linked form (reach_of form)

abbrev pub condensed : FlatForm → Cut
condensed form = cut (linked_form form)

abbrev pub linked_of : Flat → Linked
linked_of flat = linked_form (flat_form flat)

abbrev pub cut_of : Flat → Cut
cut_of flat = condensed (flat_form flat)
