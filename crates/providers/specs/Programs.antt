-- The program of each query, by its kind. That of CheckClass alone goes by the profile.
use Rattle.item_ids.specs.declared.key.Key.{Key}
use Rattle.item_ids.specs.declared.key.Key.TheVariants as keys
use Rattle.result_bytes.specs.declared.value.Value.{Value}
use Rattle.result_bytes.specs.declared.value.Value.TheVariants as values
use Rattle.std.specs.Prelude.{None}
use Rattle.profiles.specs.declared.profile.Profile.{Profile}
use Rattle.recorder.specs.Programs.{Prog, Ret}
use Rattle.text_queries.specs.Tree.{tree_steps}
use Rattle.text_queries.specs.Index.{index_steps}
use Rattle.text_queries.specs.Header.{header_steps}
use Rattle.text_queries.specs.Method.{method_steps}
use Rattle.text_queries.specs.Sig.{sig_steps}
use Rattle.member_queries.specs.Supers.{supers_steps}
use Rattle.member_queries.specs.Members.{members_steps}
use Rattle.member_queries.specs.Diags.{diags_steps}
use Rattle.body_query.specs.Body.{body_steps}
use Rattle.answer_queries.specs.CheckClass.{check_class_steps}
use Rattle.answer_queries.specs.Answer.{answer_steps}

unfoldable pub steps_of : Profile → Key → (Value → Prog) → Prog
steps_of profile (keys.Tree f) k = tree_steps f k
steps_of profile keys.Index k = index_steps k
steps_of profile (keys.Header c) k = header_steps c k
steps_of profile (keys.Method c m) k = method_steps c m k
steps_of profile (keys.Sig c m) k = sig_steps c m k
steps_of profile (keys.Supers c) k = supers_steps c k
steps_of profile (keys.Members c) k = members_steps c k
steps_of profile (keys.CheckClass c) k = check_class_steps profile c k
steps_of profile (keys.CheckBody c m) k = body_steps c m k
steps_of profile (keys.Diags c) k = diags_steps c k
steps_of profile keys.Answer k = answer_steps k
-- an input isn't run
steps_of profile _ k = k (values.Tree None)

abbrev pub prog_of : Profile → Key → Prog
prog_of profile q = steps_of profile q Ret
