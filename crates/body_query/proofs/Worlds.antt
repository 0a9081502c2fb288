-- The answers of a project to the check of a body are what its declarations say.
use Rattle.std.proofs.Common.{◌≡◌, List, [], map, Option, Some, None, option_map, is_some, find, bytes_eq, refl, sym, ap, ◌∙◌}
use Rattle.item_ids.specs.declared.key.Key.TheVariants as keys
use Rattle.mj_tree.specs.Trees.{Name}
use Rattle.mj_answer.specs.declared.table.FieldRow.{FieldRow}
use Rattle.mj_answer.specs.AnswerValues.{MethodRowValue}
use Rattle.mj_members.specs.Declarations.{ClassDecl}
use Rattle.mj_classes.specs.Declarations.{decl}
use Rattle.mj_classes.specs.Chains.{Chain, chain_of, chain_names, ancestry, is_in}
use Rattle.mj_members.specs.Tables.{fields_along, methods_along}
use Rattle.mj_classes.proofs.Climb.{has_none}
use Rattle.mj_classes.proofs.Nearest.{ancestry_by}
use Rattle.mj_members.proofs.Tables.{firsts_are}
use Rattle.mj_rules.specs.Sentences.{classes_in}
use Rattle.mj_rules.specs.Tables.{field_row, method_row, table_of, sig_in}
use Rattle.mj_rules.specs.Worlds.{world_of}
use Rattle.mj_rules.proofs.RowLemmas.{sig_in-rows}
use Rattle.profiles.specs.declared.profile.Profile.{Profile}
use Rattle.recorder.specs.Projects.{Project}
use Rattle.query_rules.specs.Items.{class_at, header_of, chain_value}
use Rattle.query_rules.specs.Meaning.{mean}
use Rattle.body_questions.specs.Classes.{chain_classes, is_declared_in, descends_in}
use Rattle.body_questions.specs.Members.{table_for, field_in, method_in}
use Rattle.body_query.proofs.Asked.{world_in}
use Rattle.body_query.proofs.FieldRows.{type_in-rows}

names_told : (o : Option Chain) → chain_classes (option_map chain_value o) ≡ chain_names o
names_told None = refl
names_told (Some chain) = refl

declared_told : (o : Option ClassDecl) → is_some (option_map header_of o) ≡ is_some o
declared_told None = refl
declared_told (Some k) = refl

module _ (cs : List ClassDecl) (c : Name) where
  -- no class has no rows
  no_fields : [] ≡ fields_along []
  unfolding fields_along
  no_fields = firsts_are [] [] tt (λ n. refl)

  no_methods : [] ≡ methods_along []
  unfolding methods_along
  no_methods = firsts_are [] [] tt (λ n. refl)

  no_ancestry : decl cs c ≡ None → ancestry cs c ≡ []
  no_ancestry e = ancestry_by cs c None (has_none cs c e)

  fields_told : (o : Option ClassDecl) → decl cs c ≡ o → (table_for (option_map (λ k. table_of cs c) o)).fields ≡ (table_of cs c).fields
  fields_told None e = ap (map field_row) (no_fields ∙ ap fields_along (sym (no_ancestry e)))
  fields_told (Some k) e = refl

  methods_told : (o : Option ClassDecl) → decl cs c ≡ o → (table_for (option_map (λ k. table_of cs c) o)).methods ≡ (table_of cs c).methods
  methods_told None e = ap (map method_row) (no_methods ∙ ap methods_along (sym (no_ancestry e)))
  methods_told (Some k) e = refl

module _ (profile : Profile) (p : Project) where
  descends_same : (c d : Name) → descends_in (mean profile p (keys.Supers c)) d ≡ is_in (chain_names (chain_of (classes_in p) c)) d
  unfolding mean
  descends_same c d = ap (λ ns. is_in ns d) (names_told (chain_of (classes_in p) c))

  field_same : (c x : Name) → field_in (mean profile p (keys.Members c)) x ≡ (world_of (classes_in p)).field c x
  unfolding mean
  field_same c x =
      ap (λ (rows : List FieldRow). option_map (λ (row : FieldRow). row.ty) (find (λ (row : FieldRow). bytes_eq row.name x) rows)) (fields_told (classes_in p) c (class_at p c) refl)
      ∙ type_in-rows (ancestry (classes_in p) c) x

  method_same : (c x : Name) → method_in (mean profile p (keys.Members c)) x ≡ (world_of (classes_in p)).method c x
  unfolding mean
  method_same c x =
      ap (λ (rows : List MethodRowValue). sig_in rows x) (methods_told (classes_in p) c (class_at p c) refl)
      ∙ sig_in-rows (ancestry (classes_in p) c) x

  declared_same : (c : Name) → is_declared_in (mean profile p (keys.Header c)) ≡ is_some (class_at p c)
  unfolding mean
  declared_same c = declared_told (class_at p c)

  pub world_same : world_in (mean profile p) ≡ world_of (classes_in p)
  world_same = λ i. record {
    descends = λ c d. descends_same c d i;
    field = λ c x. field_same c x i;
    method = λ c x. method_same c x i;
    is_declared = λ c. declared_same c i;
  }
