-- What a session is worked over.
use Rattle.std.specs.Prelude.{◌==◌, Bool, true, false, List, [], ◌∷◌, filter, Option, Some, None, if◌then◌else◌}
use Rattle.profiles.specs.declared.profile.Profile.{Profile}
use Rattle.profiles.specs.Profiles.{same_profile}
use Rattle.item_ids.specs.declared.kind.Kind.{Kind}
use Rattle.item_ids.specs.declared.key.Key.{Key}
use Rattle.item_ids.specs.Kinds.{number_of, all_kinds}
use Rattle.item_ids.specs.Keys.{kind_of}
use Rattle.sessions.specs.Sessions.{Entry, SessionValue, past_entry}
use Rattle.graph_rules.specs.Pasts.{Past}

-- What the previous session says about each key, the kinds of which nothing is taken over from it, and
-- the profile of the session at work.
pub record Setting : Type 0 where
  pub held : Past
  pub crossing : List Kind
  pub profile : Profile

-- the kinds have this one
abbrev pub has_kind : List Kind → Kind → Bool
has_kind [] k = false
has_kind (x ∷ xs) k = if number_of x == number_of k then true else has_kind xs k

-- what is taken over of a key if its edges are unchanged
abbrev pub kept : Setting → Key → Option Entry
kept over q = if has_kind over.crossing (kind_of q) then None else over.held q

-- the kinds that go by the profile, if the previous session is of another profile
unfoldable pub crossing_kinds : (Kind → Bool) → Profile → Option SessionValue → List Kind
crossing_kinds by_profile profile None = []
crossing_kinds by_profile profile (Some s) =
    if same_profile s.terms.profile profile then [] else filter by_profile all_kinds

-- a session of this profile is worked over the previous session
abbrev pub setting_of : (Kind → Bool) → Profile → Option SessionValue → Setting
setting_of by_profile profile past = record {
  held = past_entry past;
  crossing = crossing_kinds by_profile profile past;
  profile = profile;
}
