use Rattle.std.proofs.Common.{◌≡◌, inl, true, false, refl}
use Rattle.std.proofs.lemmas.Result.{err_from_is_err_and}
use Rattle.capnp_allocation.proofs.Outcomes.{if_err_so}
use Rattle.capnp_builders.proofs.CopiesHeld.{on_ok, on_err}
use Rattle.capnp_edits.specs.Edits.{place_of}
use Rattle.capnp_edits.proofs.Copied.{Tried, root_unread, tried_done, copy_counted, tried_taken, tried_fits, value_tried, struct_copied, list_copied, unread_counted, struct_unread, list_unread, struct_found, list_found}
use Rattle.capnp_edits.proofs.edit.copying.copy_root.Goals as goal
use Rattle.capnp_edits.proofs.edit.copying.copy_root.Goals.{After-set_struct, After-set_list}

pub returns-in_err-root-clause-done : goal.returns-in_err-root-clause-done
returns-in_err-root-clause-done g c =
    let p = err_from_is_err_and c.from_residual.result c.from_residual.ensures.1 in
    rw (p.1, p.2) (root_unread c.args.copying _ (inl c.in_err-root.ensures.refused) refl refl)

pub returns-in_err-root-clause-taken : goal.returns-in_err-root-clause-taken
returns-in_err-root-clause-taken g c =
    let p = err_from_is_err_and c.from_residual.result c.from_residual.ensures.1 in
    rw (p.1, p.2) (inl (inl c.in_err-root.ensures.refused, refl))

-- The copy of what the root means.
value_at : (g : _) (c : goal.After-copy_from g) → Tried c.copy_from.result c.args.copying (g.A.BuilderArena.view c.args.pointer.now.arena.now) (g.A.BuilderArena.view c.copy_from.new.self.arena.now) (place_of c.args.pointer.now)
value_at g c =
    value_tried c.copy_from.result c.args.copying _ _ _ _ _ (place_of c.args.pointer.now) c.in-Value.is c.in_ok-root.ensures.found.1 c.in_ok-root.ensures.found.2 c.in_ok-root.ensures.found.0 c.copy_from.ensures.copied c.copy_from.ensures.refused c.copy_from.ensures.taken

pub returns-in-Value-clause-done : goal.returns-in-Value-clause-done
returns-in-Value-clause-done g c = tried_done c.copy_from.result c.args.copying _ _ _ (value_at g c) (on_err c.copy_from.result _ _ c.copy_from.ensures.refused (λ k x. x.cleared))

pub returns-in-Value-clause-counted : goal.returns-in-Value-clause-counted
returns-in-Value-clause-counted g c = copy_counted c.copy_from.result _ _ (on_ok c.copy_from.result _ _ c.copy_from.ensures.copied (λ x. x.memory)) (if_err_so c.copy_from.result _ _ c.copy_from.ensures.refused (λ k x. x.memory))

pub returns-in-Value-clause-taken : goal.returns-in-Value-clause-taken
returns-in-Value-clause-taken g c = tried_taken c.copy_from.result c.args.copying _ _ _ (value_at g c)

pub returns-in-Value-clause-fits : goal.returns-in-Value-clause-fits
returns-in-Value-clause-fits g c = tried_fits c.copy_from.result c.args.copying _ _ _ (value_at g c)

-- The copy of the struct that it leads to.
struct_there : (g : _) (c : After-set_struct g) → Tried c.set_struct.result c.args.copying (g.A.BuilderArena.view c.args.pointer.now.arena.now) (g.A.BuilderArena.view c.set_struct.new.self.arena.now) (place_of c.args.pointer.now)
struct_there g c =
    struct_copied c.set_struct.result c.args.copying _ c.in_ok-root.root c.in_ok-value-in-Struct.value _ _ _ _ _ (place_of c.args.pointer.now) c.in-Struct.is c.in_ok-root.ensures.found c.in_ok-value-in-Struct.value.content_is.1 c.in_ok-value-in-Struct.ensures.read c.set_struct.ensures.copied c.set_struct.ensures.refused c.set_struct.ensures.taken

pub returns-in_ok-value-in-Struct-clause-done : goal.returns-in_ok-value-in-Struct-clause-done
returns-in_ok-value-in-Struct-clause-done g c = tried_done c.set_struct.result c.args.copying _ _ _ (struct_there g c) (on_err c.set_struct.result _ _ c.set_struct.ensures.refused (λ k x. x.cleared))

pub returns-in_ok-value-in-Struct-clause-counted : goal.returns-in_ok-value-in-Struct-clause-counted
returns-in_ok-value-in-Struct-clause-counted g c = copy_counted c.set_struct.result _ _ (on_ok c.set_struct.result _ _ c.set_struct.ensures.copied (λ x. x.memory)) (if_err_so c.set_struct.result _ _ c.set_struct.ensures.refused (λ k x. x.memory))

pub returns-in_ok-value-in-Struct-clause-taken : goal.returns-in_ok-value-in-Struct-clause-taken
returns-in_ok-value-in-Struct-clause-taken g c = tried_taken c.set_struct.result c.args.copying _ _ _ (struct_there g c)

pub returns-in_ok-value-in-Struct-clause-fits : goal.returns-in_ok-value-in-Struct-clause-fits
returns-in_ok-value-in-Struct-clause-fits g c = tried_fits c.set_struct.result c.args.copying _ _ _ (struct_there g c)

pub returns-in_err-value-in-Struct-clause-done : goal.returns-in_err-value-in-Struct-clause-done
returns-in_err-value-in-Struct-clause-done g c =
    let p = err_from_is_err_and c.from_residual-in_err-value-in-Struct.result c.from_residual-in_err-value-in-Struct.ensures.1 in
    rw (p.1, p.2) (root_unread c.args.copying _ (struct_unread _ c.args.copying c.in_ok-root.root _ _ _ c.in-Struct.is c.in_ok-root.ensures.found c.in_err-value-in-Struct.ensures.refused) refl refl)

pub returns-in_err-value-in-Struct-clause-counted : goal.returns-in_err-value-in-Struct-clause-counted
returns-in_err-value-in-Struct-clause-counted g c =
    let p = err_from_is_err_and c.from_residual-in_err-value-in-Struct.result c.from_residual-in_err-value-in-Struct.ensures.1 in
    rw (p.1, p.2) (unread_counted c.args.copying.source c.args.copying.wanted _ _ (struct_unread _ c.args.copying c.in_ok-root.root _ _ _ c.in-Struct.is c.in_ok-root.ensures.found c.in_err-value-in-Struct.ensures.refused))

pub returns-in_err-value-in-Struct-clause-taken : goal.returns-in_err-value-in-Struct-clause-taken
returns-in_err-value-in-Struct-clause-taken g c =
    let p = err_from_is_err_and c.from_residual-in_err-value-in-Struct.result c.from_residual-in_err-value-in-Struct.ensures.1 in
    rw (p.1, p.2) (inl (struct_unread _ c.args.copying c.in_ok-root.root _ _ _ c.in-Struct.is c.in_ok-root.ensures.found c.in_err-value-in-Struct.ensures.refused, refl))

pub returns-in_err-value-in-Struct-clause-fits : goal.returns-in_err-value-in-Struct-clause-fits
returns-in_err-value-in-Struct-clause-fits g c = λ fits.
    absurd (let e : false ≡ true = c.in_err-value-in-Struct.ensures.exactly.1 (struct_found _ c.args.copying c.in_ok-root.root _ (g.A.BuilderArena.view c.args.pointer.now.arena.now) c.args.pointer.now.segment c.in-Struct.is c.in_ok-root.ensures.found fits) in cc)

-- The copy of the list that it leads to.
list_there : (g : _) (c : After-set_list g) → Tried c.set_list.result c.args.copying (g.A.BuilderArena.view c.args.pointer.now.arena.now) (g.A.BuilderArena.view c.set_list.new.self.arena.now) (place_of c.args.pointer.now)
list_there g c =
    list_copied c.set_list.result c.args.copying _ c.in_ok-root.root c.in_ok-list-in-List.list _ _ _ _ _ (place_of c.args.pointer.now) c.in-List.is c.in_ok-root.ensures.found c.in_ok-list-in-List.ensures.read c.set_list.ensures.copied c.set_list.ensures.refused c.set_list.ensures.taken

pub returns-in_ok-list-in-List-clause-done : goal.returns-in_ok-list-in-List-clause-done
returns-in_ok-list-in-List-clause-done g c = tried_done c.set_list.result c.args.copying _ _ _ (list_there g c) (on_err c.set_list.result _ _ c.set_list.ensures.refused (λ k x. x.cleared))

pub returns-in_ok-list-in-List-clause-counted : goal.returns-in_ok-list-in-List-clause-counted
returns-in_ok-list-in-List-clause-counted g c = copy_counted c.set_list.result _ _ (on_ok c.set_list.result _ _ c.set_list.ensures.copied (λ x. x.memory)) (if_err_so c.set_list.result _ _ c.set_list.ensures.refused (λ k x. x.memory))

pub returns-in_ok-list-in-List-clause-taken : goal.returns-in_ok-list-in-List-clause-taken
returns-in_ok-list-in-List-clause-taken g c = tried_taken c.set_list.result c.args.copying _ _ _ (list_there g c)

pub returns-in_ok-list-in-List-clause-fits : goal.returns-in_ok-list-in-List-clause-fits
returns-in_ok-list-in-List-clause-fits g c = tried_fits c.set_list.result c.args.copying _ _ _ (list_there g c)

pub returns-in_err-list-in-List-clause-done : goal.returns-in_err-list-in-List-clause-done
returns-in_err-list-in-List-clause-done g c =
    let p = err_from_is_err_and c.from_residual-in_err-list-in-List.result c.from_residual-in_err-list-in-List.ensures.1 in
    rw (p.1, p.2) (root_unread c.args.copying _ (list_unread _ c.args.copying c.in_ok-root.root _ _ _ c.in-List.is c.in_ok-root.ensures.found c.in_err-list-in-List.ensures.refused) refl refl)

pub returns-in_err-list-in-List-clause-counted : goal.returns-in_err-list-in-List-clause-counted
returns-in_err-list-in-List-clause-counted g c =
    let p = err_from_is_err_and c.from_residual-in_err-list-in-List.result c.from_residual-in_err-list-in-List.ensures.1 in
    rw (p.1, p.2) (unread_counted c.args.copying.source c.args.copying.wanted _ _ (list_unread _ c.args.copying c.in_ok-root.root _ _ _ c.in-List.is c.in_ok-root.ensures.found c.in_err-list-in-List.ensures.refused))

pub returns-in_err-list-in-List-clause-taken : goal.returns-in_err-list-in-List-clause-taken
returns-in_err-list-in-List-clause-taken g c =
    let p = err_from_is_err_and c.from_residual-in_err-list-in-List.result c.from_residual-in_err-list-in-List.ensures.1 in
    rw (p.1, p.2) (inl (list_unread _ c.args.copying c.in_ok-root.root _ _ _ c.in-List.is c.in_ok-root.ensures.found c.in_err-list-in-List.ensures.refused, refl))

pub returns-in_err-list-in-List-clause-fits : goal.returns-in_err-list-in-List-clause-fits
returns-in_err-list-in-List-clause-fits g c = λ fits.
    absurd (let e : false ≡ true = c.in_err-list-in-List.ensures.exactly.1 (list_found _ c.args.copying c.in_ok-root.root _ (g.A.BuilderArena.view c.args.pointer.now.arena.now) c.args.pointer.now.segment c.in-List.is c.in_ok-root.ensures.found fits) in cc)
