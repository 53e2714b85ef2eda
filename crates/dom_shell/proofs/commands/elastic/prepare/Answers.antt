use Rattle.std.proofs.Common.{arith, nat_eq, not, refl}
use Rattle.banzai_config.specs.Checked.{shape_with}
use Rattle.banzai_config.specs.Parts.{parts_form}
use Rattle.banzai_config.proofs.Staged.{legal_depth}
use Rattle.dom_finding.specs.Command.{configs_named}
use Rattle.dom_finding.specs.Configs.{config_form}
use Rattle.dom_finding.specs.Files.{ask_of}
use Rattle.dom_finding.specs.Finding.{trace_file}
use Rattle.dom_finding.proofs.Stopped.{rule_stops}
use Rattle.dom_shell.proofs.Clocked.{legal_multiplied}
use Rattle.dom_shell.proofs.Over.{config_of, legal_of}
use Rattle.dom_shell.proofs.Queues.{are_later, config_stops, events_later, events_stop, found_in_queues, no_trace, queues_found, trace_stops}
use Rattle.dom_shell.proofs.Texts as lemma
use Rattle.dom_shell.proofs.commands.elastic.prepare.Goals as goal

pub returns-in-Err-clause-stop : goal.returns-in-Err-clause-stop
returns-in-Err-clause-stop g c name text spelled =
    config_stops (configs_named name c.args.trace.now) c.args.events.now (g.F.Shelf.content c.args.shelf.now) text (g.F.Shelf.faults c.args.shelf.now) (g.F.Shelf.faults c.args.shelf.now) c.config_stop.result (λ _. refl)
    (rule_stops c.args.target (parts_form c.args.parts) text c.in-Err.fault c.config_stop.result c.config_stop.ensures spelled (rw (← c.requires.shape) at c.in-Err.ensures.fault))

pub returns-in-Err-text_in-clause-stop : goal.returns-in-Err-text_in-clause-stop
returns-in-Err-text_in-clause-stop g c name text spelled =
    let is = config_of c.args.target (parts_form c.args.parts) c.in-Ok.config c.in-Ok.ensures.parts (shape_with g.T.AtomTemplate.fits g.T.AtomTemplate.CONST_BITS g.row.DEPTH g.row.SL g.row.SF (not (nat_eq g.row.MUL 0))) text c.requires.shape spelled c.in-Ok.ensures.legal in
    no_trace (configs_named name c.args.trace.now) c.args.events.now (g.F.Shelf.content c.args.shelf.now) text (config_form c.args.target c.in-Ok.config) is (g.F.Shelf.faults c.args.shelf.now) (g.F.Shelf.faults c.text_in.new.shelf) c.in-Err-text_in.stop
    (lemma.stop_of (g.F.Shelf.content c.args.shelf.now) (g.F.Shelf.faults c.args.shelf.now) (g.F.Shelf.faults c.text_in.new.shelf) (ask_of c.trace_file.result) (trace_file c.args.trace.now) c.in-Err-text_in.stop c.trace_file.ensures c.in-Err-text_in.ensures.stop)

pub returns-in-Err-packets_of-clause-stop : goal.returns-in-Err-packets_of-clause-stop
returns-in-Err-packets_of-clause-stop g c name text spelled =
    let is = config_of c.args.target (parts_form c.args.parts) c.in-Ok.config c.in-Ok.ensures.parts (shape_with g.T.AtomTemplate.fits g.T.AtomTemplate.CONST_BITS g.row.DEPTH g.row.SL g.row.SF (not (nat_eq g.row.MUL 0))) text c.requires.shape spelled c.in-Ok.ensures.legal in
    let trace = lemma.text_of (g.F.Shelf.content c.args.shelf.now) (ask_of c.trace_file.result) (trace_file c.args.trace.now) c.in-Ok-text_in.text.items c.trace_file.ensures c.in-Ok-text_in.ensures.text in
    trace_stops (configs_named name c.args.trace.now) c.args.events.now (g.F.Shelf.content c.args.shelf.now) text (config_form c.args.target c.in-Ok.config) is c.in-Ok-text_in.text.items trace (g.F.Shelf.faults c.args.shelf.now) (g.F.Shelf.faults c.text_in.new.shelf) c.in-Err-packets_of.stop c.in-Ok-text_in.ensures.kept
    (rw (c.as_slice.ensures.value, c.fields.ensures) at c.in-Err-packets_of.ensures.stop)

pub returns-clause-found : goal.returns-clause-found
returns-clause-found g c name text spelled =
    let is = config_of c.args.target (parts_form c.args.parts) c.in-Ok.config c.in-Ok.ensures.parts (shape_with g.T.AtomTemplate.fits g.T.AtomTemplate.CONST_BITS g.row.DEPTH g.row.SL g.row.SF (not (nat_eq g.row.MUL 0))) text c.requires.shape spelled c.in-Ok.ensures.legal in
    let trace = lemma.text_of (g.F.Shelf.content c.args.shelf.now) (ask_of c.trace_file.result) (trace_file c.args.trace.now) c.in-Ok-text_in.text.items c.trace_file.ensures c.in-Ok-text_in.ensures.text in
    let says = rw (c.as_slice.ensures.value, c.fields.ensures) at c.in-Ok-packets_of.ensures.packets in
    lemma.ok_of_three _ _ _ _ c.with_events.result
    (λ run same alike events. found_in_queues (configs_named name c.args.trace.now) c.args.events.now text (g.F.Shelf.content c.args.shelf.now) c.in-Ok.config run.elastic.config c.in-Ok-packets_of.packets run.trace run.events.items same alike
    (queues_found (configs_named name c.args.trace.now) c.args.events.now (g.F.Shelf.content c.args.shelf.now) text (config_form c.args.target c.in-Ok.config) is c.in-Ok-text_in.text.items trace c.in-Ok-packets_of.packets says run.events.items
    (are_later (g.F.Shelf.content c.args.shelf.now) (g.F.Shelf.content c.text_in.new.shelf) c.args.events.now c.in-Ok.config run.events.items c.in-Ok-text_in.ensures.files events)))
    c.with_events.ensures.config c.with_events.ensures.trace c.with_events.ensures.events

pub returns-clause-stop : goal.returns-clause-stop
returns-clause-stop g c name text spelled =
    let is = config_of c.args.target (parts_form c.args.parts) c.in-Ok.config c.in-Ok.ensures.parts (shape_with g.T.AtomTemplate.fits g.T.AtomTemplate.CONST_BITS g.row.DEPTH g.row.SL g.row.SF (not (nat_eq g.row.MUL 0))) text c.requires.shape spelled c.in-Ok.ensures.legal in
    let trace = lemma.text_of (g.F.Shelf.content c.args.shelf.now) (ask_of c.trace_file.result) (trace_file c.args.trace.now) c.in-Ok-text_in.text.items c.trace_file.ensures c.in-Ok-text_in.ensures.text in
    let says = rw (c.as_slice.ensures.value, c.fields.ensures) at c.in-Ok-packets_of.ensures.packets in
    lemma.err_of _ _ c.with_events.result
    (λ s stops. events_stop (configs_named name c.args.trace.now) c.args.events.now (g.F.Shelf.content c.args.shelf.now) text (config_form c.args.target c.in-Ok.config) is c.in-Ok-text_in.text.items trace c.in-Ok-packets_of.packets says (g.F.Shelf.faults c.args.shelf.now) (g.F.Shelf.faults c.with_events.new.shelf) s
    (events_later (g.F.Shelf.content c.args.shelf.now) (g.F.Shelf.content c.text_in.new.shelf) (g.F.Shelf.faults c.args.shelf.now) (g.F.Shelf.faults c.text_in.new.shelf) (g.F.Shelf.faults c.with_events.new.shelf) c.args.events.now c.in-Ok.config s c.in-Ok-text_in.ensures.files c.in-Ok-text_in.ensures.kept stops))
    c.with_events.ensures.stop

pub with_events-requires : goal.with_events-requires
with_events-requires g c =
    let legal = legal_of c.args.target (parts_form c.args.parts) c.in-Ok.config c.in-Ok.ensures.parts (shape_with g.T.AtomTemplate.fits g.T.AtomTemplate.CONST_BITS g.row.DEPTH g.row.SL g.row.SF (not (nat_eq g.row.MUL 0))) c.in-Ok.ensures.legal in (
      omega arith,
      record {
        some = c.requires.depth.0;
        few = c.requires.depth.1;
        stages = legal_depth (shape_with g.T.AtomTemplate.fits g.T.AtomTemplate.CONST_BITS g.row.DEPTH g.row.SL g.row.SF (not (nat_eq g.row.MUL 0))) c.in-Ok.config legal;
        legal = legal_multiplied g.T.AtomTemplate.fits g.T.AtomTemplate.CONST_BITS g.row.DEPTH g.row.SL g.row.SF (not (nat_eq g.row.MUL 0)) c.in-Ok.config legal;
        each = rw c.fields.ensures at c.in-Ok-packets_of.ensures.words;
      },
    )
