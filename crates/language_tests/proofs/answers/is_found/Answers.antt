use Rattle.language_tests.proofs.answers.is_found.Goals as goal

pub position_by_name-position-requires : goal.position_by_name-position-requires
position_by_name-position-requires c = rw c.as_slice.ensures.value c.name_set-list.ensures.ascending

pub find_by_name-found-requires : goal.find_by_name-found-requires
find_by_name-found-requires c = rw c.as_slice-2.ensures.value c.name_set-list.ensures.ascending
