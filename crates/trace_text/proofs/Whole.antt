-- What a whole text says, from its heading and its rows.
use Rattle.std.proofs.Common.{◌≡◌, ℕ, ◌+◌, ◌<◌, ◌≤◌, true, false, List, ◌∷◌, length, map, drop, Option, Some, None, Ok, Err, refl, ◌∙◌, ap, arith, rules}
use Rattle.std.specs.Prelude.{All, IfSome, Result, nat_le}
use Rattle.std.proofs.lemmas.List.{length-drop, length-map}
use Rattle.std.proofs.lemmas.List.Elements.{All-map}
use Rattle.csv.specs.Reading.{AreRecords, default_config, records, strip_bom}
use Rattle.csv.specs.declared.parser.State.TheVariants as state
use Rattle.dom_words.specs.Names.{index_of}
use Rattle.trace_text.proofs.Records.{are_records, fields-few, one_list, records-few, strip_bom-shorter}
use Rattle.trace_text.proofs.Storing.{columns-within, packets-stored}
use Rattle.trace_text.specs.Stored.{numbers_of, stored_packet}
use Rattle.trace_text.specs.Trace.{IsTraceOf, Refusal, cycles_of, heading_refusal, most_cycles, packet_of, rows_refusal, too_many_cycles, trace_of}

-- the records of a text
pub all_records : (text : List ℕ) → AreRecords default_config state.StartRecord (strip_bom text) (records default_config (strip_bom text))
all_records text = are_records (length (strip_bom text) + 1) state.StartRecord (strip_bom text) refl (omega arith)

-- what a text says, by any list of its records
pub trace_is : (text : List ℕ) (fields : List (List ℕ)) (depth : ℕ) (answer : Result (List (ℕ × List ℕ)) Refusal) (rows : List (List (List ℕ)))
    → AreRecords default_config state.StartRecord (strip_bom text) rows → IsTraceOf text fields depth answer → trace_of rows fields depth ≡ answer
trace_is text fields depth answer rows all is =
    ap (λ (l : List (List (List ℕ))). trace_of l fields depth) (one_list default_config state.StartRecord (strip_bom text) rows is.0 all is.1) ∙ is.2

pub is_trace : (text : List ℕ) (fields : List (List ℕ)) (depth : ℕ) (answer : Result (List (ℕ × List ℕ)) Refusal) (rows : List (List (List ℕ)))
    → records default_config (strip_bom text) ≡ rows → trace_of rows fields depth ≡ answer → IsTraceOf text fields depth answer
is_trace text fields depth answer rows are e =
    (records default_config (strip_bom text), all_records text, ap (λ (l : List (List (List ℕ))). trace_of l fields depth) are ∙ e)

module _ (text : List ℕ) (fields : List (List ℕ)) (depth : ℕ) (heading : List (List ℕ)) (rows : List (List (List ℕ))) (are : records default_config (strip_bom text) ≡ heading ∷ rows) where
  pub refused-heading : (r : Refusal) → heading_refusal fields heading ≡ Some r → IsTraceOf text fields depth (Err r)
  refused-heading r e = is_trace text fields depth (Err r) (heading ∷ rows) are (rw e refl)

  pub refused-rows : (r : Refusal) → heading_refusal fields heading ≡ None → rows_refusal (length heading) 1 rows ≡ Some r → IsTraceOf text fields depth (Err r)
  refused-rows r good e = is_trace text fields depth (Err r) (heading ∷ rows) are (rw (good, e) refl)

  pub refused-cycles : (packets : List (ℕ × List ℕ)) → heading_refusal fields heading ≡ None → rows_refusal (length heading) 1 rows ≡ None
      → packets ≡ map (packet_of fields heading) rows → most_cycles < cycles_of packets + depth → IsTraceOf text fields depth (Err (too_many_cycles (cycles_of packets + depth)))
  refused-cycles packets good all_good seen many =
      let over : nat_le (cycles_of packets + depth) most_cycles ≡ false = search rules in
      is_trace text fields depth _ (heading ∷ rows) are (rw (good, all_good, ← seen, over) refl)

  pub good-trace : (packets : List (ℕ × List ℕ)) → heading_refusal fields heading ≡ None → rows_refusal (length heading) 1 rows ≡ None
      → packets ≡ map (packet_of fields heading) rows → cycles_of packets + depth ≤ most_cycles → IsTraceOf text fields depth (Ok packets)
  good-trace packets good all_good seen few =
      let within : nat_le (cycles_of packets + depth) most_cycles ≡ true = search rules in
      is_trace text fields depth _ (heading ∷ rows) are (rw (good, all_good, ← seen, within) refl)

  pub rows-few : length text ≤ 16777216 → length rows ≤ 16777216
  rows-few h =
      let few = records-few state.StartRecord (strip_bom text) _ refl (all_records text) in
      let size = ap length are in
      let short = strip_bom-shorter text in
      omega arith

  pub heading-few : length text ≤ 16777216 → length heading ≤ 16777217
  heading-few h =
      let few = fields-few state.StartRecord (strip_bom text) heading rows (rw are at (all_records text)) in
      let short = strip_bom-shorter text in
      omega arith

-- each field's column is in the heading
pub columns-there : (heading names fields : List (List ℕ)) (columns : List (Option ℕ)) → 0 < length heading → names ≡ drop 1 heading → columns ≡ map (λ field. index_of names field) fields
    → All (λ column. IfSome column (λ c. c + 1 < length heading)) columns
columns-there heading names fields columns some are is =
    let size = ap length are in
    rw is (columns-within names fields (length heading) (omega (arith, size, length-drop 1 heading)))

-- the packets, as they were stored
pub packets-seen : (heading names fields : List (List ℕ)) (columns : List (Option ℕ)) (rows : List (List (List ℕ))) (packets : List (ℕ × List ℕ))
    → names ≡ drop 1 heading → columns ≡ map (λ field. index_of names field) fields → packets ≡ map (λ r. stored_packet columns (numbers_of r)) rows
    → packets ≡ map (packet_of fields heading) rows
packets-seen heading names fields columns rows packets are is seen = seen ∙ rw (is, are) (packets-stored heading fields rows)

-- each packet has a word for each field
pub words-all : (heading fields : List (List ℕ)) (rows : List (List (List ℕ))) (packets : List (ℕ × List ℕ)) → packets ≡ map (packet_of fields heading) rows
    → All (λ p. length p.1 ≡ length fields) packets
words-all heading fields rows packets seen =
    rw seen (All-map (λ (p : ℕ × List ℕ). length p.1 ≡ length fields) (packet_of fields heading) rows (λ k d less. length-map fields _))

-- a fault tells a refusal, and so what follows from that refusal
pub told : (P : Refusal → Type 0) (o refusal : Option Refusal) → IfSome o (λ r. refusal ≡ Some r) → ((r : Refusal) → refusal ≡ Some r → P r) → IfSome o P
told P None refusal h follows = tt
told P (Some r) refusal h follows = follows r h
