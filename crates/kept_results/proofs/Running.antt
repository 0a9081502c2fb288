-- What a run of a query read, its result follows from.
use Rattle.std.proofs.Common.{◌≡◌, ◌<◌, [], None, Result, Ok, Err, IfOk, IfErr, refl, subst}
use Rattle.profiles.specs.declared.profile.Profile.{Profile}
use Rattle.item_ids.specs.declared.key.Key.{Key}
use Rattle.item_ids.specs.declared.key.Key.TheVariants as keys
use Rattle.item_ids.specs.declared.kind.Kind.TheVariants as kinds
use Rattle.item_ids.specs.Keys.{kind_of}
use Rattle.item_ids.specs.Inputs.{rank}
use Rattle.result_bytes.specs.declared.value.Value.{Value}
use Rattle.recorder.specs.Recording.{Recording}
use Rattle.recorder.specs.Programs.{Prog, Goes, GivesUp, Performs}
use Rattle.recorder.specs.Runs.{IsRun}
use Rattle.recorder.specs.declared.runner.RunFault.{RunFault}
use Rattle.recorder.proofs.Rules.{run_performed}
use Rattle.query_rules.specs.Meaning.{mean}
use Rattle.query_rules.specs.Reads.{reads}
use Rattle.body_query.specs.Body.{body_prog}
use Rattle.providers.specs.Programs.{prog_of, steps_of}
use Rattle.providers.specs.Laws.{mini_java_tied}
use Rattle.keeping.specs.Follows.{Follows}
use Rattle.keeping.proofs.Following.{performed_law}

-- the program of a key that checks a body
same_body : (profile : Profile) (q : Key) → kind_of q ≡ kinds.CheckBody → body_prog q ≡ prog_of profile q
unfolding steps_of
same_body profile (keys.CheckBody c m) e = refl
same_body profile keys.Files e = absurd cc
same_body profile (keys.Source f) e = absurd cc
same_body profile (keys.Tree f) e = absurd cc
same_body profile keys.Index e = absurd cc
same_body profile (keys.Header c) e = absurd cc
same_body profile (keys.Method c m) e = absurd cc
same_body profile (keys.Sig c m) e = absurd cc
same_body profile (keys.Supers c) e = absurd cc
same_body profile (keys.Members c) e = absurd cc
same_body profile (keys.CheckClass c) e = absurd cc
same_body profile (keys.Diags c) e = absurd cc
same_body profile keys.Answer e = absurd cc

module _ {D : Type 0} (profile : Profile) (q : Key) (old new : Recording D) (result : Result Value RunFault) where
  pub body_performs : kind_of q ≡ kinds.CheckBody → Performs (body_prog q) old result new → Performs (prog_of profile q) old result new
  body_performs kind performs = subst (λ (p : Prog). Performs p old result new) (same_body profile q kind) performs

  pub steps_perform : old.told ≡ [] → old.refused ≡ None → IfOk result (λ v. Goes (steps_of profile q) old v new) → IfErr result (λ e. GivesUp (steps_of profile q) old e new) → Performs (prog_of profile q) old result new
  steps_perform unread unrefused ok err = record {
    unread = unread;
    unrefused = unrefused;
    step = steps_of profile q;
    whole = refl;
    ok = ok;
    err = err;
  }

  pub performed_is_run : 0 < rank q → Performs (prog_of profile q) old result new → IsRun (mean profile) (reads profile) q new result
  performed_is_run above performs = run_performed (mean profile) (reads profile) q (prog_of profile q) ((mini_java_tied profile).each q above) old new result performs

pub performed_follows : {D : Type 0} (profile : Profile) (q : Key) (old new : Recording D) (result : Result Value RunFault) → Performs (prog_of profile q) old result new → IfOk result (λ v. Follows (prog_of profile q) new.told v)
performed_follows profile q old new (Ok v) performs = performed_law (prog_of profile q) old new v performs
performed_follows profile q old new (Err e) performs = tt
