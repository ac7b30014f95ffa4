-- The forms of a copy, and what of a value each keeps ("Canonicalization").
use Rattle.std.specs.Prelude.{Bool, true, false}
use Rattle.capnp_format.specs.Tree.{Tree, Trees, Elements}
use Rattle.capnp_format.specs.Canonical.{trim, trim_each, trim_elements}
use Rattle.capnp_pointers.specs.Wanted.{Form, plain, canonical, of_default}
use Rattle.capnp_copies.specs.declared.form.CopyForm.{CopyForm}
use Rattle.capnp_copies.specs.declared.form.CopyForm.TheVariants.{Plain, Canonical, OfDefault}

-- The canonical form, or the plain one, which keeps all of a value.
abbrev pub form_of : Bool → Form
form_of true = canonical
form_of false = plain

-- The form that is requested of a copy.
abbrev pub form_in : CopyForm → Form
form_in Plain = plain
form_in Canonical = canonical
form_in OfDefault = of_default

-- What a copy in a form keeps of a value, of children, and of elements.
abbrev pub kept : Form → Tree → Tree
kept canonical t = trim t
kept _ t = t

abbrev pub kept_each : Form → Trees → Trees
kept_each canonical ts = trim_each ts
kept_each _ ts = ts

abbrev pub kept_elements : Form → Elements → Elements
kept_elements canonical es = trim_elements es
kept_elements _ es = es
