-- In each profile the programs of all kinds are tied to what queries mean and read.
use Rattle.std.proofs.Common.{◌≡◌, ◌<◌, false, refl, arith}
use Rattle.item_ids.specs.declared.key.Key.{Key}
use Rattle.item_ids.specs.declared.key.Key.TheVariants as keys
use Rattle.profiles.specs.declared.profile.Profile.{Profile}
use Rattle.item_ids.specs.Keys.{kind_of}
use Rattle.item_ids.specs.Inputs.{rank}
use Rattle.recorder.specs.Backed.{AreLawful}
use Rattle.recorder.specs.Programs.{Tied}
use Rattle.recorder.proofs.Rules.{program_laws, programs_alike}
use Rattle.query_rules.specs.Meaning.{mean}
use Rattle.query_rules.specs.Reads.{reads}
use Rattle.query_rules.specs.Queries.{is_by_profile, queries}
use Rattle.query_rules.specs.Ties.{TiesIn}
use Rattle.query_rules.proofs.Ranks.{query_laws}
use Rattle.text_queries.proofs.TreeTie.{tree_ties}
use Rattle.text_queries.proofs.IndexTie.{index_ties}
use Rattle.text_queries.proofs.HeaderTie.{header_ties}
use Rattle.text_queries.proofs.MethodTie.{method_ties}
use Rattle.text_queries.proofs.SigTie.{sig_ties}
use Rattle.member_queries.proofs.SupersTie.{supers_ties}
use Rattle.member_queries.proofs.MembersTie.{members_ties}
use Rattle.member_queries.proofs.DiagsTie.{diags_ties}
use Rattle.body_query.proofs.Ties.{body_ties}
use Rattle.answer_queries.proofs.CheckClassTie.{check_class_ties}
use Rattle.answer_queries.proofs.AnswerTie.{answer_ties}
use Rattle.providers.specs.Programs.{prog_of, steps_of}

tie_of : (profile : Profile) (q : Key) → 0 < rank q → TiesIn profile q (prog_of profile q)
unfolding steps_of
tie_of profile keys.Files a = absurd (omega (arith, a))
tie_of profile (keys.Source f) a = absurd (omega (arith, a))
tie_of profile (keys.Tree f) a = tree_ties f profile
tie_of profile keys.Index a = index_ties profile
tie_of profile (keys.Header c) a = header_ties c profile
tie_of profile (keys.Method c m) a = method_ties c m profile
tie_of profile (keys.Sig c m) a = sig_ties c m profile
tie_of profile (keys.Supers c) a = supers_ties c profile
tie_of profile (keys.Members c) a = members_ties c profile
tie_of profile (keys.CheckClass c) a = check_class_ties profile c
tie_of profile (keys.CheckBody c m) a = body_ties c m profile
tie_of profile (keys.Diags c) a = diags_ties c profile
tie_of profile keys.Answer a = answer_ties profile

pub mini_java_tied : (profile : Profile) → Tied (prog_of profile) (mean profile) (reads profile)
mini_java_tied profile = record {
  inputs = λ p i. query_laws.inputs profile p;
  each = tie_of profile;
}

-- what doesn't go by the profile has one program
pub same_program : (a b : Profile) (q : Key) → is_by_profile (kind_of q) ≡ false → prog_of a q ≡ prog_of b q
unfolding steps_of
same_program a b (keys.CheckClass c) apart = absurd cc
same_program a b keys.Files apart = refl
same_program a b (keys.Source f) apart = refl
same_program a b (keys.Tree f) apart = refl
same_program a b keys.Index apart = refl
same_program a b (keys.Header c) apart = refl
same_program a b (keys.Method c m) apart = refl
same_program a b (keys.Sig c m) apart = refl
same_program a b (keys.Supers c) apart = refl
same_program a b (keys.Members c) apart = refl
same_program a b (keys.CheckBody c m) apart = refl
same_program a b (keys.Diags c) apart = refl
same_program a b keys.Answer apart = refl

pub mini_java_laws : AreLawful queries
mini_java_laws = record {
  each = λ a. program_laws (prog_of a) (mean a) (reads a) (mini_java_tied a);
  across = λ a b q apart. programs_alike (prog_of a) (prog_of b) (mean a) (reads a) (mean b) (reads b) (mini_java_tied a) (mini_java_tied b) q (same_program a b q apart);
}
