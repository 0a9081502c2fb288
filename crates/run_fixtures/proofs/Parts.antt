-- The parts of a phrase, one after the other.
use Rattle.std.proofs.Common.{◌≡◌, ℕ, List, [], ◌∷◌, map, Option, Result, Ok, Err, IfOk, IfErr, sym, ◌∙◌, ap, subst, refl}
use Rattle.std.specs.Global.{Vec, Box}
use Rattle.recorder.specs.Recording.{Recording}
use Rattle.recorder.specs.Programs.{Prog, IsAt, Goes, GivesUp, each}
use Rattle.recorder.specs.declared.runner.RunFault.{RunFault}
use Rattle.run_fixtures.specs.Phrases.{Phrase as SpecPhrase, Called, phrases_of}
use Rattle.run_fixtures.specs.Programs.{phrase_step, phrases_step, part_step, meet_step}
use Rattle.run_fixtures.specs.View.{view_of, view_step}
use Rattle.run_fixtures.specs.declared.sample.phrase.Phrase.{Phrase}
use Rattle.run_fixtures.specs.declared.sample.phrase.Phrase.TheVariants.{Call, rolls-Call}
use Rattle.run_fixtures.specs.declared.sample.phrase.Phrase.TheFolds.{fold-roll-Phrase}

pub view_call : (front : Box Phrase) (parts : Vec Phrase) → view_of (Call front parts) ≡ Called (view_of front.value) (phrases_of (map view_of parts.items))
view_call front parts = ap view_of (sym (rolls-Call front parts)) ∙ fold-roll-Phrase SpecPhrase view_step _

each_part : (parts : List Phrase) (s : Option (List ℕ)) (k : Option (List ℕ) → Prog) → phrases_step (phrases_of (map view_of parts)) s k ≡ each (λ e. part_step (view_of e)) parts s k
unfolding phrases_step each
each_part [] s k = refl
each_part (e ∷ rest) s k = λ i. phrase_step (view_of e) (λ t. meet_step s t (λ u. each_part rest u k i))

module _ {D : Type 0} (e : SpecPhrase) (parts : List Phrase) (s : Option (List ℕ)) (old mid new : Recording D) where
  pub called_ok : (r : Result (Option (List ℕ)) RunFault) → Goes (phrase_step e) old s mid → IfOk r (λ t. Goes (each (λ x. part_step (view_of x)) parts s) mid t new) → IfOk r (λ t. Goes (phrase_step (Called e (phrases_of (map view_of parts)))) old t new)
  unfolding phrase_step phrases_step
  called_ok (Ok t) g h = record { goes = λ prog k w. h.goes prog k (subst (IsAt prog mid) (each_part parts s k) (g.goes prog (λ u. phrases_step (phrases_of (map view_of parts)) u k) w)) }
  called_ok (Err f) g h = tt

  pub called_err : (r : Result (Option (List ℕ)) RunFault) → Goes (phrase_step e) old s mid → IfErr r (λ f. GivesUp (each (λ x. part_step (view_of x)) parts s) mid f new) → IfErr r (λ f. GivesUp (phrase_step (Called e (phrases_of (map view_of parts)))) old f new)
  unfolding phrase_step phrases_step
  called_err (Ok t) g h = tt
  called_err (Err f) g h = record { halts = λ prog k w. h.halts prog k (subst (IsAt prog mid) (each_part parts s k) (g.goes prog (λ u. phrases_step (phrases_of (map view_of parts)) u k) w)) }

-- what was found, and one part after it
module _ {D : Type 0} (e : SpecPhrase) (s t : Option (List ℕ)) (old mid new : Recording D) where
  pub part_ok : (r : Result (Option (List ℕ)) RunFault) → Goes (phrase_step e) old t mid → IfOk r (λ u. Goes (meet_step s t) mid u new) → IfOk r (λ u. Goes (part_step e s) old u new)
  part_ok (Ok u) g h = record { goes = λ prog k w. h.goes prog k (g.goes prog (λ x. meet_step s x k) w) }
  part_ok (Err f) g h = tt

  pub part_err : (r : Result (Option (List ℕ)) RunFault) → Goes (phrase_step e) old t mid → IfErr r (λ f. GivesUp (meet_step s t) mid f new) → IfErr r (λ f. GivesUp (part_step e s) old f new)
  part_err (Ok u) g h = tt
  part_err (Err f) g h = record { halts = λ prog k w. h.halts prog k (g.goes prog (λ x. meet_step s x k) w) }
