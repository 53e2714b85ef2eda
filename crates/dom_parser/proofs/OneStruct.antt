-- A program that tokens spell has one struct, and that has a field.
use Rattle.std.proofs.Common.{◌≡◌, ℕ, suc, true, List, ◌∷◌, ◌++◌, length, refl, sym, ap, ◌∙◌}
use Rattle.std.specs.List.{count_by, filter, list_all}
use Rattle.std.proofs.lemmas.List.Sums.{length-filter}
use Rattle.std.specs.Prelude.{nat_eq, ◌&&◌}
use Rattle.dom_lexer.specs.declared.token.Token.{Token}
use Rattle.dom_ast.specs.declared.program.Head.{Head}
use Rattle.dom_ast.specs.CheckedForm.{has_field, has_one_struct, is_struct}
use Rattle.dom_ast.specs.Form.{ProgramForm}
use Rattle.dom_parser.specs.Grammar.{SpellsWithin, Decls, no_decls, then_decl, a_define, a_global, decls_trees, Structure, struct_tree, Program, program, program_tree}

-- the structs among heads
structs : List Head → ℕ
structs heads = length (filter is_struct heads)

-- declarations have no struct

after_decls : (d : Decls) (heads : List Head) → structs (decls_trees d ++ heads) ≡ structs heads
unfolding structs
after_decls no_decls heads = refl
after_decls (then_decl (a_define p q r n c) d) heads = after_decls d heads
after_decls (then_decl (a_global m z s) d) heads = after_decls d heads

no_struct : (d : Decls) → structs (decls_trees d) ≡ 0
unfolding structs
no_struct no_decls = refl
no_struct (then_decl (a_define p q r n c) d) = no_struct d
no_struct (then_decl (a_global m z s) d) = no_struct d

-- and no struct without fields

fields_after : (d : Decls) (heads : List Head) → list_all has_field (decls_trees d ++ heads) ≡ list_all has_field heads
fields_after no_decls heads = refl
fields_after (then_decl (a_define p q r n c) d) heads = fields_after d heads
fields_after (then_decl (a_global m z s) d) heads = fields_after d heads

fields_in : (d : Decls) → list_all has_field (decls_trees d) ≡ true
fields_in no_decls = refl
fields_in (then_decl (a_define p q r n c) d) = fields_in d
fields_in (then_decl (a_global m z s) d) = fields_in d

one_more : (s : Structure) (heads : List Head) → structs (struct_tree s ∷ heads) ≡ suc (structs heads)
unfolding structs
one_more s heads = refl

counted : (heads : List Head) → structs heads ≡ count_by is_struct heads
unfolding structs
counted heads = length-filter is_struct heads

one_in : (d : Decls) (s : Structure) (e : Decls) → count_by is_struct (decls_trees d ++ struct_tree s ∷ decls_trees e) ≡ 1
one_in d s e =
    sym (counted (decls_trees d ++ struct_tree s ∷ decls_trees e))
    ∙ (after_decls d (struct_tree s ∷ decls_trees e) ∙ (one_more s (decls_trees e) ∙ ap suc (no_struct e)))

all_in : (d : Decls) (s : Structure) (e : Decls) → list_all has_field (decls_trees d ++ struct_tree s ∷ decls_trees e) ≡ true
all_in d s e = fields_after d (struct_tree s ∷ decls_trees e) ∙ fields_in e

way_struct : (way : Program) → has_one_struct (program_tree way).heads ≡ true
way_struct (program d s e t ts) = ap (λ n. nat_eq n 1 && list_all has_field (decls_trees d ++ struct_tree s ∷ decls_trees e)) (one_in d s e) ∙ all_in d s e

pub spelled_struct : (p : ProgramForm) (l : List Token) → SpellsWithin p l → has_one_struct p.heads ≡ true
spelled_struct p l (way, is_program, tokens, tree, within) = ap (λ (f : ProgramForm). has_one_struct f.heads) (sym tree) ∙ way_struct way
