-- A text is one thing as a program.
use Rattle.std.proofs.Common.{◌≡◌, ℕ, List, length, sym, ap, ◌∙◌, subst, Result, Ok, Err}
use Rattle.dom_lexer.specs.declared.token.Token.{Token}
use Rattle.dom_lexer.specs.declared.token.LexFault.{LexFault}
use Rattle.dom_lexer.proofs.One.{one_answer}
use Rattle.dom_parser.specs.declared.faults.ParseFault.{ParseFault}
use Rattle.dom_parser.specs.Faults.{IsFirstFault}
use Rattle.dom_parser.specs.Grammar.{SpellsWithin}
use Rattle.dom_parser.proofs.OneFault as fault
use Rattle.dom_parser.proofs.OneProgram.{one_tree}
use Rattle.dom_ast.specs.Form.{ProgramForm}
use Rattle.dom_ast.specs.Resolved.{CheckedForm}
use Rattle.dom_checks.specs.Resolve.{resolved}
use Rattle.dom_checks.specs.Walk.{violation}
use Rattle.dom_compile.specs.Programs.{HasLexFault, HasParseFault, HasProgram, HasTokens}
use Rattle.dom_compile.specs.Verdict.{IsProgram, ProgramFault, of_bytes, of_names, of_tokens}

-- A text has its tokens once, and no fault beside them.

one_tokens : (text : List ℕ) (k l : List Token) → HasTokens text k → HasTokens text l → k ≡ l
one_tokens text k l a b = let e = one_answer text (Ok k) (Ok l) (a.lexed, a.few) (b.lexed, b.few) in cc

one_lex_fault : (text : List ℕ) (f g : LexFault) → HasLexFault text f → HasLexFault text g → f ≡ g
one_lex_fault text f g a b = let e = one_answer text (Err f) (Err g) a.first b.first in cc

no_lex_fault : (text : List ℕ) (k : List Token) (f : LexFault) → HasTokens text k → HasLexFault text f → ⊥
no_lex_fault text k f a b = let e = one_answer text (Ok k) (Err f) (a.lexed, a.few) b.first in cc

-- Tokens spell one program, and have no fault beside it.

one_tree_of : (text : List ℕ) (p q : ProgramForm) → HasProgram text p → HasProgram text q → p ≡ q
one_tree_of text p q a b =
    let same : b.tokens ≡ a.tokens = one_tokens text b.tokens a.tokens b.has_tokens a.has_tokens in
    let s : SpellsWithin p a.tokens = a.spelled in
    let t : SpellsWithin q a.tokens = subst (λ (l : List Token). SpellsWithin q l) same b.spelled in
    one_tree p q a.tokens (s.0, s.1, s.2, s.3) (t.0, t.1, t.2, t.3)

one_parse_fault : (text : List ℕ) (f g : ParseFault) → HasParseFault text f → HasParseFault text g → f ≡ g
one_parse_fault text f g a b =
    let same : b.tokens ≡ a.tokens = one_tokens text b.tokens a.tokens b.has_tokens a.has_tokens in
    fault.one_answer a.tokens (length text) f g a.first (subst (λ (l : List Token). IsFirstFault l (length text) g) same b.first) a.told b.told

no_parse_fault : (text : List ℕ) (p : ProgramForm) (f : ParseFault) → HasProgram text p → HasParseFault text f → ⊥
no_parse_fault text p f a b =
    let same : a.tokens ≡ b.tokens = one_tokens text a.tokens b.tokens a.has_tokens b.has_tokens in
    b.none p (subst (λ (l : List Token). SpellsWithin p l) same a.spelled)

-- The checks of the one program.

one_check : (text : List ℕ) (p q : ProgramForm) → HasProgram text p → HasProgram text q → violation q ≡ violation p
one_check text p q a b = ap violation (one_tree_of text q p b a)

pub one_program : (text : List ℕ) (r s : Result CheckedForm ProgramFault) → IsProgram text r → IsProgram text s → r ≡ s
one_program text (Err (of_bytes f)) (Err (of_bytes g)) a b = ap (λ x. Err (of_bytes x)) (one_lex_fault text f g a b)
one_program text (Err (of_bytes f)) (Err (of_tokens g)) a b = absurd (no_lex_fault text b.tokens f b.has_tokens a)
one_program text (Err (of_bytes f)) (Err (of_names g)) a b = absurd (no_lex_fault text b.has_program.tokens f b.has_program.has_tokens a)
one_program text (Err (of_bytes f)) (Ok k) a b = absurd (no_lex_fault text b.has_program.tokens f b.has_program.has_tokens a)
one_program text (Err (of_tokens f)) (Err (of_bytes g)) a b = absurd (no_lex_fault text a.tokens g a.has_tokens b)
one_program text (Err (of_tokens f)) (Err (of_tokens g)) a b = ap (λ x. Err (of_tokens x)) (one_parse_fault text f g a b)
one_program text (Err (of_tokens f)) (Err (of_names g)) a b = absurd (no_parse_fault text b.program f b.has_program a)
one_program text (Err (of_tokens f)) (Ok k) a b = absurd (no_parse_fault text b.program f b.has_program a)
one_program text (Err (of_names f)) (Err (of_bytes g)) a b = absurd (no_lex_fault text a.has_program.tokens g a.has_program.has_tokens b)
one_program text (Err (of_names f)) (Err (of_tokens g)) a b = absurd (no_parse_fault text a.program g a.has_program b)
one_program text (Err (of_names f)) (Err (of_names g)) a b = let same = one_check text a.program b.program a.has_program b.has_program in let x = a.first in let y = b.first in cc
one_program text (Err (of_names f)) (Ok k) a b = let same = one_check text a.program b.program a.has_program b.has_program in let x = a.first in let y = b.well in cc
one_program text (Ok c) (Err (of_bytes g)) a b = absurd (no_lex_fault text a.has_program.tokens g a.has_program.has_tokens b)
one_program text (Ok c) (Err (of_tokens g)) a b = absurd (no_parse_fault text a.program g a.has_program b)
one_program text (Ok c) (Err (of_names g)) a b = let same = one_check text a.program b.program a.has_program b.has_program in let x = a.well in let y = b.first in cc
one_program text (Ok c) (Ok k) a b =
    let same = one_tree_of text a.program b.program a.has_program b.has_program in
    ap Ok (a.resolved_is ∙ ap resolved same ∙ sym b.resolved_is)
