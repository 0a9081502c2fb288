-- The query's program in a project.
use Rattle.std.proofs.Common.{◌≡◌, ◌<◌, ◌^◌, List, [], ◌∷◌, Option, Some, None, refl, sym, ap, ap₂, ◌∙◌, arith}
use Rattle.item_ids.specs.declared.key.Key.{Key}
use Rattle.item_ids.specs.declared.key.Key.TheVariants as keys
use Rattle.item_ids.specs.declared.kind.Kind.TheVariants as kinds
use Rattle.item_ids.specs.Keys.{kind_of}
use Rattle.item_ids.specs.Inputs.{rank}
use Rattle.mj_tree.specs.Trees.{Name}
use Rattle.mj_tree.specs.declared.place.Place.TheVariants.{Inside}
use Rattle.mj_phrases.specs.declared.verdict.Mistake.{Mistake}
use Rattle.mj_phrases.specs.Inquiries.{World, Concludes, AsksDescent, AsksField, AsksMethod, AsksDeclared, conclusion}
use Rattle.mj_phrases.specs.Steps.{Check}
use Rattle.mj_phrases.specs.Table.{main_scope}
use Rattle.mj_typing.specs.Bodies.{main_check, main_step}
use Rattle.mj_typing.proofs.Checks.{method_concludes, main_concludes}
use Rattle.mj_rules.specs.Sentences.{classes_in}
use Rattle.mj_rules.specs.Worlds.{world_of}
use Rattle.mj_rules.specs.FaultLists.{fault, inside}
use Rattle.tree_bytes.specs.Bodies.{BodyValue, OfMain, OfMethod}
use Rattle.result_bytes.specs.declared.value.Value.{Value}
use Rattle.result_bytes.specs.declared.value.Value.TheVariants as values
use Rattle.profiles.specs.declared.profile.Profile.{Profile}
use Rattle.recorder.specs.Projects.{Project}
use Rattle.recorder.specs.Programs.{Prog, Ret, runs, asks, Fits}
use Rattle.query_rules.specs.Items.{body_at, mistakes_in, fault_set}
use Rattle.query_rules.specs.BodyReads.{body_reads}
use Rattle.query_rules.specs.Meaning.{mean}
use Rattle.query_rules.specs.Reads.{asked_keys, first_keys, reads}
use Rattle.query_rules.specs.Ties.{Ties}
use Rattle.result_bytes.specs.Parts.{body_in}
use Rattle.body_questions.specs.Classes.{is_declared_in, descends_in}
use Rattle.body_questions.specs.Members.{field_in, method_in}
use Rattle.body_query.specs.Programs.{reads_of}
use Rattle.body_query.specs.Body.{fault_of_mistake, faults_of_mistakes, check_of, body_prog}
use Rattle.body_query.specs.Laws.{BodyTies}
use Rattle.body_query.proofs.Asked.{world_in, asked_in, runs_reads, asks_reads, method_asked, main_asked}
use Rattle.body_query.proofs.Texts.{main_same, method_same}
use Rattle.body_query.proofs.Bounds.{same_number}
use Rattle.body_query.proofs.Few.{Small, small_mistakes}
use Rattle.body_query.proofs.Worlds.{world_same}

-- ---- a body

module _ (w : World) (c : Name) where
  concludes : (b : Option BodyValue) → conclusion w (check_of c b) ≡ mistakes_in w c b
  unfolding main_check main_step
  concludes None = refl
  concludes (Some (OfMain statement)) = main_concludes w (record { name = c; statement = statement })
  concludes (Some (OfMethod tree)) = method_concludes w c tree

  asked : (b : Option BodyValue) → asked_in w (check_of c b) ≡ body_reads w c b
  unfolding main_check main_step
  asked None = refl
  asked (Some (OfMain statement)) = main_asked w (record { name = c; statement = statement }) ∙ main_same w main_scope statement
  asked (Some (OfMethod tree)) = method_asked w c tree ∙ method_same w c tree

fits_reads : (q : Key) → 5 < rank q → (i : Check) (k : List Mistake → Prog) → ((ms : List Mistake) → Fits q (k ms)) → Fits q (reads_of i k)
unfolding Fits reads_of
fits_reads q h (Concludes ms) k g = g ms
fits_reads q h (AsksDescent c d f) k g = (omega (arith, h), λ v. fits_reads q h (f (descends_in v d)) k g)
fits_reads q h (AsksField c x f) k g = (omega (arith, h), λ v. fits_reads q h (f (field_in v x)) k g)
fits_reads q h (AsksMethod c x f) k g = (omega (arith, h), λ v. fits_reads q h (f (method_in v x)) k g)
fits_reads q h (AsksDeclared c f) k g = (omega (arith, h), λ v. fits_reads q h (f (is_declared_in v)) k g)

-- ---- in a project marks have four bytes

same_fault : (m : Name) (x : Mistake) → x.mark < 2 ^ 32 → fault_of_mistake m x ≡ fault (Inside m x.mark) x.code
same_fault m x h = ap (λ n. fault (Inside m n) x.code) (same_number x.mark h)

same_faults : (m : Name) (ms : List Mistake) → Small ms → faults_of_mistakes m ms ≡ inside m ms
same_faults m [] h = refl
same_faults m (x ∷ xs) h = ap₂ (λ d ds. d ∷ ds) (same_fault m x h.0) (same_faults m xs h.1)

abbrev value_of : Name → List Mistake → Value
value_of x ms = values.CheckBody (fault_set (faults_of_mistakes x ms))

module _ (c x : Name) (profile : Profile) (p : Project) where
  means : mean profile p (keys.CheckBody c x) ≡ runs (body_prog (keys.CheckBody c x)) (mean profile p)
  unfolding mean runs
  means = sym
      (runs_reads (mean profile p) (check_of c (body_at p c x)) (λ ms. Ret (value_of x ms))
      ∙ ap (value_of x) (concludes (world_in (mean profile p)) c (body_at p c x) ∙ ap (λ w. mistakes_in w c (body_at p c x)) (world_same profile p))
      ∙ ap (λ ds. values.CheckBody (fault_set ds)) (same_faults x (mistakes_in (world_of (classes_in p)) c (body_at p c x)) (small_mistakes (world_of (classes_in p)) p c x)))

  are_asked : reads profile p (keys.CheckBody c x) ≡ asks (body_prog (keys.CheckBody c x)) (mean profile p) []
  unfolding mean asks reads asked_keys
  are_asked = sym (ap (λ ks. keys.Method c x ∷ ks)
      (asks_reads (mean profile p) (check_of c (body_at p c x)) (value_of x) (keys.Method c x ∷ [])
      ∙ ap (first_keys (keys.Method c x ∷ [])) (asked (world_in (mean profile p)) c (body_at p c x) ∙ ap (λ w. body_reads w c (body_at p c x)) (world_same profile p))))

fits : (c x : Name) → Fits (keys.CheckBody c x) (body_prog (keys.CheckBody c x))
unfolding Fits
fits c x = (omega arith, λ v. fits_reads (keys.CheckBody c x) (omega arith) (check_of c (body_in v)) (λ ms. Ret (value_of x ms)) (λ ms. refl))

pub body_ties : BodyTies
body_ties c x profile = record {
  means = λ p h. means c x profile p;
  asked = λ p h. are_asked c x profile p;
  fits = fits c x;
}

-- every key of this kind is tied to its program
pub body_tied : (q : Key) → kind_of q ≡ kinds.CheckBody → Ties q (body_prog q)
body_tied (keys.CheckBody c m) is = body_ties c m
body_tied _ is = absurd cc
