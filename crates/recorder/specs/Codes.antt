-- The codes of what contracts see of reads, recorders and outcomes.
use Rattle.std.specs.Prelude.{List, Option, refl}
use Rattle.std.specs.Coded.{Coded, code_by, coded×, coded_list, coded_option}
use Rattle.profiles.specs.declared.profile.Profile.{Profile}
use Rattle.profiles.specs.contracts.profile.Profile as profile_contracts
use Rattle.item_ids.specs.declared.key.Key.{Key}
use Rattle.item_ids.specs.contracts.key.Key as key_contracts
use Rattle.result_bytes.specs.declared.value.Value.{Value}
use Rattle.result_bytes.specs.contracts.value.Value as value_contracts
use Rattle.recorder.specs.Backed.{ReadValue}
use Rattle.recorder.specs.Recording.{Recording}
use Rattle.recorder.specs.Runs.{OutcomeValue}
use Rattle.recorder.specs.declared.refused.Refused.{Refused}
use Rattle.recorder.specs.contracts.refused.Refused as refused_contracts

abbrev coded_profile : Coded Profile
coded_profile = profile_contracts.the_row.coded

abbrev coded_key : Coded Key
coded_key = key_contracts.the_row.coded

abbrev coded_value : Coded Value
coded_value = value_contracts.the_row.coded

abbrev coded_refused : Coded (Option Refused)
coded_refused = coded_option refused_contracts.the_row.coded

abbrev pub coded_read : Coded ReadValue
coded_read =
    code_by (Key × Value) (coded× coded_key coded_value)
    (λ t. (t.key, t.value)) (λ p. record { key = p.0; value = p.1 }) (λ _. refl)

abbrev pub coded_reads : Coded (List ReadValue)
coded_reads = coded_list coded_read

-- over any reader
abbrev pub coded_recording : {D : Type 0} → Coded D → Coded (Recording D)
coded_recording {D} inner =
    code_by (D × (List ReadValue × Option Refused))
    (coded× inner (coded× coded_reads coded_refused))
    (λ r. (r.inner, (r.told, r.refused)))
    (λ p. record { inner = p.0; told = p.1.0; refused = p.1.1 })
    (λ _. refl)

abbrev pub coded_outcome : Coded OutcomeValue
coded_outcome =
    code_by (Profile × (Key × (List ReadValue × Value)))
    (coded× coded_profile (coded× coded_key (coded× coded_reads coded_value)))
    (λ r. (r.profile, (r.key, (r.told, r.value))))
    (λ p. record { profile = p.0; key = p.1.0; told = p.1.1.0; value = p.1.1.1 })
    (λ _. refl)
