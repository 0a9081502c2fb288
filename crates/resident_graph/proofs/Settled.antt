-- In a graph without queued places below a rank the values there are what their keys mean.
use Rattle.std.proofs.Common.{◌≡◌, ℕ, zero, suc, ◌<◌, ◌≤◌, false, List, [], ◌∷◌, ◌∙◌, arith, Some}
use Rattle.std.specs.List.{AllByRecursion}
use Rattle.std.proofs.Math.Decide.{dec_lt}
use Rattle.std.proofs.lemmas.Option.{same_Some}
use Rattle.item_ids.specs.declared.key.Key.{Key}
use Rattle.item_ids.specs.Inputs.{rank, Origin, files, source, computed, origin}
use Rattle.result_bytes.specs.declared.value.Value.{Value}
use Rattle.named_files.specs.Projects.{IsProject}
use Rattle.recorder.specs.Projects.{Project}
use Rattle.recorder.specs.Backed.{Meaning, ReadLists, Backed, Gives, GivesEach}
use Rattle.recorder.specs.Programs.{Prog, Tied}
use Rattle.graph_rules.specs.Keys.{input_of}
use Rattle.keeping.specs.Readers.{told_at}
use Rattle.keeping.proofs.Following.{backed_law}
use Rattle.resident_graph.specs.Places.{Places, IsEdge, Holds, MeantBelow}

module _ (prog_of : Key → Prog) (mean : Meaning) (reads : ReadLists) (p : Project) (project : IsProject p) (tied : Tied prog_of mean reads) where
  -- an input's value is what it means
  input_by : {q : Key} → Origin q → (v : Value) → rank q ≡ 0 → input_of p q ≡ Some v → mean p q ≡ v
  unfolding input_of
  input_by files v low is = (tied.inputs p project).files ∙ same_Some _ v is
  input_by (source file) v low is = (tied.inputs p project).source file ∙ same_Some _ v is
  input_by (computed q c) v low is = absurd (let a = c.above in omega arith)

  module _ (s : Places) (holds : Holds prog_of p s) (bound : ℕ)
      (rest : (i : ℕ) → i < s.count → rank (s.key i) < bound → s.queued i ≡ false) where
    -- of the places below a rank
    Below : ℕ → Type 0
    Below r = (i : ℕ) → i < s.count → rank (s.key i) < r → mean p (s.key i) ≡ s.value i

    told_means : (r i : ℕ) → Below r → rank (s.key i) < suc r → (es : List ℕ) → AllByRecursion (IsEdge s i) es → GivesEach (mean p) (told_at s.key s.value es)
    unfolding Below
    told_means r i below lt [] all = tt
    told_means r i below lt (e ∷ es) all =
        (below e all.0.inside (let l = all.0.lower in omega arith), told_means r i below lt es all.1)

    step : (r : ℕ) → r < bound → Below r → Below (suc r)
    unfolding Below
    step r within below i lt low = elim (dec_lt 0 (rank (s.key i))) [
      | yes above ↦ (
          let settled = (holds.each i lt).settled above (rest i lt (omega (arith, within, low))) in
          let backed : Backed mean reads (s.key i) (told_at s.key s.value (s.edges i)) (s.value i) = backed_law mean reads (s.key i) (prog_of (s.key i)) (tied.each (s.key i) above) _ _ settled.follows in
          let gives : Gives mean p (told_at s.key s.value (s.edges i)) = record { project = project; each = told_means r i below low (s.edges i) settled.edges } in
          backed.means p gives
          )
      | no not_above ↦ (
          let zero_rank : rank (s.key i) ≡ 0 = omega arith in
          input_by (origin (s.key i)) (s.value i) zero_rank ((holds.each i lt).input zero_rank (rest i lt (omega (arith, within, low))))
          )
    ]

    below_all : (r : ℕ) → r ≤ bound → Below r
    unfolding Below
    below_all zero le = λ i lt low. absurd (omega arith)
    below_all (suc r) le = step r (omega (arith, le)) (below_all r (omega (arith, le)))

    all_meant : (i : ℕ) → i < s.count → rank (s.key i) < bound → mean p (s.key i) ≡ s.value i
    unfolding Below
    all_meant i lt low = below_all bound (omega arith) i lt low

pub meant_below : MeantBelow
meant_below prog_of mean reads p s bound project tied holds rest = all_meant prog_of mean reads p project tied s holds bound rest
