-- The laws of codelets.
use Rattle.std.proofs.Common.{refl}
use Rattle.codelets.specs.Linked.{Linked, IsLinked}
use Rattle.codelets.specs.Cut.{cut}
use Rattle.codelets.specs.Laws.{CodeletLaws}
use Rattle.codelets.proofs.Twins.{line_law}
use Rattle.codelets.proofs.Alone.{stateless_single}
use Rattle.codelets.proofs.Sources.{source_law, earlier_law, shown_law}
use Rattle.codelets.proofs.Falls.{level_law}
use Rattle.codelets.proofs.Order.{before_law, order_in, in_the_order, order_apart, arrays_law}
use Rattle.codelets.proofs.Classes.{one_codelet}
use Rattle.codelets.proofs.Slots.{slot_law, fetch_law, store_law, fetched_by}
use Rattle.codelets.proofs.Tight.{containers_tight}
use Rattle.codelets.proofs.Containers.{field_law, field_holds, export_holds, container_law, places_apart, export_made, export_held, order_few}

pub codelet_laws : (P : Linked) → IsLinked P → CodeletLaws P
codelet_laws P ok = record {
  lines = line_law P ok;
  single = stateless_single P ok;
  sources = source_law P ok;
  earlier = earlier_law P ok;
  shown = shown_law P ok;
  lower = level_law P ok;
  before = before_law P ok;
  ordered = order_in (cut P);
  order = in_the_order (cut P);
  apart = order_apart P ok;
  alone = one_codelet P ok;
  slots = slot_law P ok;
  fetched = λ b array i at. let r = fetch_law P ok b array i at in (r.0, fetched_by P r.0 array b i, r.1, r.3, refl, refl);
  stored = λ j array i v at. let r = store_law P ok j array i v at in (r.0, r.1, r.2, r.4, r.5, r.6);
  arrays = arrays_law P ok;
  fields = field_law (cut P);
  field_has = field_holds (cut P);
  export_has = export_holds (cut P);
  placed = λ v i. let r = container_law (cut P) v i in record { there = r.0; back = r.1; within = r.2 };
  places = places_apart (cut P);
  made = export_made P ok;
  held_values = export_held P ok;
  few_containers = containers_tight P ok;
  few_codelets = order_few P ok;
}
