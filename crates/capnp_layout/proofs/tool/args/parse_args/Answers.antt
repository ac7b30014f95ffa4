use Rattle.std.proofs.Common.{IfSome, string_bytes, subst, sym}
use mir.Syntax.{w32}
use Rattle.std.proofs.lemmas.Int.{to_z-of_z}
use Rattle.capnp_layout.specs.Arguments.{IsNamed}
use Rattle.capnp_layout.proofs.CommandLemmas.{alone_none, limited_none, limited_read, one}
use Rattle.capnp_layout.proofs.Three.{three}
use Rattle.capnp_layout.proofs.tool.args.parse_args.Goals as goal

pub returns-in-len1-clause-none : goal.returns-in-len1-clause-none
returns-in-len1-clause-none c = λ none.
    alone_none (one c.args.args.now c.in-len1.len_at_least c.in-len1.len_below (sym c.command-item.is))
    (rw c.as_str.ensures.value at (c.command_without_limits.ensures.none none))

-- the three arguments: the first is the command
pub returns-in_ok-parse_traversal_limit-in-len3-clause-read : goal.returns-in_ok-parse_traversal_limit-in-len3-clause-read
returns-in_ok-parse_traversal_limit-in-len3-clause-read c =
    limited_read c.command_with_limits.result
    (record {
      all = three c.args.args.now c.in-len3.len_at_least c.in-len3.len_below (sym c.command-item-then-args-lt4.is) (sym c.nesting-item.is) (sym c.budget-item.is);
      is_nesting = rw c.as_str-in-len3.ensures.value at c.in_ok-parse_nesting_limit-in-len3.ensures.read;
      is_budget = rw c.as_str-in-len3-2.ensures.value at c.in_ok-parse_traversal_limit-in-len3.ensures.read;
    })
    (
    let fits = c.in_ok-parse_nesting_limit-in-len3.ensures.read.2 in
    subst
    (λ n. IfSome c.command_with_limits.result (IsNamed (string_bytes c.command-item-then-args-lt4.result) (record { nesting_limit = n; traversal_limit_in_words = c.in_ok-parse_traversal_limit-in-len3.field-0 })))
    (to_z-of_z w32 c.in_ok-parse_nesting_limit-in-len3.field-0 fits)
    (rw c.as_str-in-len3-3.ensures.value at c.command_with_limits.ensures.read)
    )

pub returns-in_ok-parse_traversal_limit-in-len3-clause-none : goal.returns-in_ok-parse_traversal_limit-in-len3-clause-none
returns-in_ok-parse_traversal_limit-in-len3-clause-none c = λ none.
    limited_none (three c.args.args.now c.in-len3.len_at_least c.in-len3.len_below (sym c.command-item-then-args-lt4.is) (sym c.nesting-item.is) (sym c.budget-item.is))
    (rw c.as_str-in-len3-3.ensures.value at (c.command_with_limits.ensures.none none))
