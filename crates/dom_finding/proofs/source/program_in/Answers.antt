use Rattle.dom_ast.specs.Form.{program_form}
use Rattle.dom_finding.proofs.Stopped.{check_stops, lex_stops, parse_stops}
use Rattle.dom_finding.proofs.source.program_in.Goals as goal

pub returns-in-Err-clause-stop : goal.returns-in-Err-clause-stop
returns-in-Err-clause-stop c =
    lex_stops c.args.text.now c.in-Err.fault c.lex.result c.lex_stop.result c.lex_stop.ensures c.in-Err.is
    c.requires c.lex.ensures.bad_byte c.lex.ensures.open_comment c.lex.ensures.big_literal c.lex.ensures.too_many_tokens

pub returns-in-Err-parse-clause-stop : goal.returns-in-Err-parse-clause-stop
returns-in-Err-parse-clause-stop c =
    parse_stops c.args.text.now c.in-Ok.tokens.items c.in-Ok.tokens.end c.in-Err-parse.fault c.parse_stop.result c.parse_stop.ensures
    (record { small = c.requires; lexed = c.in-Ok.ensures.items; few = c.in-Ok.ensures.few })
    c.in-Ok.ensures.end c.in-Err-parse.ensures.fault c.in-Err-parse.ensures.none

pub returns-clause-stop : goal.returns-clause-stop
returns-clause-stop c =
    check_stops c.args.text.now (program_form c.in-Ok-parse.program) c.in-Err-check.fault c.check_stop.result c.check_stop.ensures
    (record {
      tokens = c.in-Ok.tokens.items;
      has_tokens = record { small = c.requires; lexed = c.in-Ok.ensures.items; few = c.in-Ok.ensures.few };
      spelled = c.in-Ok-parse.ensures.ok;
    })
    c.in-Err-check.ensures.fault
