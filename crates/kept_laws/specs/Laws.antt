-- When the queries of MiniJava take the same of two results, and that the tests say so.
use Rattle.std.specs.Prelude.{◌≡◌, ◌↔◌, Option, true}
use Rattle.profiles.specs.declared.profile.Profile.{Profile}
use Rattle.item_ids.specs.declared.key.Key.{Key}
use Rattle.item_ids.specs.declared.key.Key.TheVariants as keys
use Rattle.mj_tree.specs.Trees.{Name}
use Rattle.result_bytes.specs.declared.value.Value.{Value}
use Rattle.result_bytes.specs.Payloads.{ChainValue}
use Rattle.result_bytes.specs.Parts.{supers_in}
use Rattle.recorder.specs.Programs.{Ret}
use Rattle.text_queries.specs.Header.{header_steps}
use Rattle.text_queries.specs.Method.{method_steps}
use Rattle.text_queries.specs.Index.{index_steps}
use Rattle.member_queries.specs.Supers.{supers_steps}
use Rattle.answer_queries.specs.Answer.{answer_steps}
use Rattle.providers.specs.Programs.{prog_of}
use Rattle.keeping.specs.Kept.{KeptBy}
use Rattle.kept_laws.specs.Parts.{DeclareSame, HaveSameRow, ListSame, ListSameChain}
use Rattle.kept_laws.specs.Tests.{declare_same, have_same_row, list_same, list_same_chain, is_kept}

-- a header takes of the index the row of its class
abbrev pub HeaderKept : Type 0
HeaderKept =
    (c : Name) (a b v : Value) → HaveSameRow c a b → KeptBy (header_steps c Ret) keys.Index a b v

abbrev pub MethodKept : Type 0
MethodKept =
    (c m : Name) (a b v : Value) → HaveSameRow c a b
    → KeptBy (method_steps c m Ret) keys.Index a b v

-- the index takes of a tree what its file declares
abbrev pub IndexKept : Type 0
IndexKept =
    (f : Name) (a b v : Value) → DeclareSame a b → KeptBy (index_steps Ret) (keys.Tree f) a b v

-- a chain takes of the index which of its classes there are, and that the name at its end is none
abbrev pub SupersKept : Type 0
SupersKept =
    (c : Name) (a b v : Value) → ListSame a b c → ListSameChain a b (supers_in v)
    → KeptBy (supers_steps c Ret) keys.Index a b v

-- the answer takes of a tree what its file declares
abbrev pub AnswerKept : Type 0
AnswerKept =
    (f : Name) (a b v : Value) → DeclareSame a b → KeptBy (answer_steps Ret) (keys.Tree f) a b v

-- ---- the tests

-- the tests hold exactly of results with the same parts
pub record TestsDecide (a b : Value) : Type 0 where
  pub declarations : declare_same a b ≡ true ↔ DeclareSame a b
  pub rows : (c : Name) → have_same_row c a b ≡ true ↔ HaveSameRow c a b
  pub classes : (c : Name) → list_same a b c ≡ true ↔ ListSame a b c
  pub chains : (o : Option ChainValue) → list_same_chain a b o ≡ true ↔ ListSameChain a b o

-- in each profile a result that is kept by the test is kept by its query's program
abbrev pub ResultsKept : Type 0
ResultsKept =
    (profile : Profile) (q k : Key) (a b v : Value) → is_kept q v k a b ≡ true
    → KeptBy (prog_of profile q) k a b v
