-- The names in a well-formed program: from the text to its words, from these to what heads declare, and from there to the
-- fields and arrays.
use Rattle.std.proofs.Common.{ℕ, List, sym, subst, arith}
use Rattle.dom_words.specs.Spelling.{is_name}
use Rattle.dom_lexer.specs.Words.{AreWordsOf}
use Rattle.dom_lexer.proofs.Words.{are_words}
use Rattle.dom_lexer.specs.declared.token.Token.{Token}
use Rattle.dom_ast.specs.Resolved.{CheckedForm}
use Rattle.dom_parser.specs.Names.{AreNamedBy}
use Rattle.dom_parser.proofs.DeclaredNames.{named_by}
use Rattle.dom_checks.specs.Resolve.{resolved}
use Rattle.dom_checks.proofs.DeclaredNames.{names_apart, names_fit, names_pass}
use Rattle.dom_compile.specs.Programs.{IsWellFormed}
use Rattle.dom_compile.specs.WellNamed.{IsWellNamed}

pub is_well_named : (text : List ℕ) (program : CheckedForm) → IsWellFormed text program → IsWellNamed text program
is_well_named text program is = subst (λ (c : CheckedForm). IsWellNamed text c) (sym is.resolved_is) named
  where
    tokens : List Token
    tokens = is.has_program.tokens

    words : AreWordsOf text tokens
    words = are_words text tokens is.has_program.has_tokens.lexed

    declared : AreNamedBy is.program.heads tokens
    declared =
        let spelled = is.has_program.spelled in
        named_by is.program tokens (spelled.0, spelled.1, spelled.2, spelled.3) words.spelled

    named : IsWellNamed text (resolved is.program)
    named =
        let pass = names_pass is_name is.program declared.spelled in
        let apart = names_apart is.program is.well in
        record {
          fields = pass.0;
          arrays = pass.1;
          fields_apart = apart.0;
          arrays_apart = apart.1;
          fit =
              let less = names_fit is.program in
              let fit = declared.fit in
              let within = words.fit in
              omega arith;
        }
