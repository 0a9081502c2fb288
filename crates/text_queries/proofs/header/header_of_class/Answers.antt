use Rattle.std.proofs.Common.{◌∙◌, map, ap}
use Rattle.text_queries.proofs.Headers.{class_told}
use Rattle.text_queries.proofs.header.header_of_class.Goals as goal

pub returns : goal.returns
returns c =
    c.new.ensures
    ∙ class_told c.args.class.now c.in_ok-superclass.superclass c.in_ok-fields.fields.items c.in_ok-methods.methods.items
    (c.in_ok-superclass.ensures ∙ c.as_ref.ensures.value)
    (c.in_ok-fields.ensures ∙ c.deref.ensures.value)
    (c.in_ok-methods.ensures ∙ ap (map (λ m. m.name)) c.deref-2.ensures.value)
