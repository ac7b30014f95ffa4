use Rattle.std.proofs.Common.{◌≡◌, ◌⊎◌, inl, inr, ℕ, List, Option, None, Some, refl, ◌∙◌, ap, subst, sym}
use Rattle.std.specs.Io.KnownBytes.{Appends, Keeps}
use Rattle.capnp_packing.specs.Packing.{unpacked_known}
use Rattle.typed_messages.proofs.serialize_packed.write_message.Goals as goal

-- What is known after the bytes were put, and then passed on.

put_kept : (a b c : Option (List ℕ)) (bs : List ℕ) → Appends a b bs → Keeps b c → Appends a c bs
put_kept None b c bs put kept = tt
put_kept (Some xs) None c bs put kept = absurd put
put_kept (Some xs) (Some ys) None bs put kept = absurd kept
put_kept (Some xs) (Some ys) (Some zs) bs put kept = kept ∙ put

put_through : (start a b c last : Option (List ℕ)) (bs : List ℕ) → a ≡ start → last ≡ c → Appends a b bs → Keeps b c → Appends start last bs
put_through start a b c last bs from to put kept = subst (λ z. Appends z last bs) from (subst (λ z. Appends a z bs) (sym to) (put_kept a b c bs put kept))

reason : {A B C D : Type 0} → A ⊎ ((B ⊎ C) × D) → A ⊎ (B ⊎ C)
reason (inl a) = inl a
reason (inr (r, d)) = inr r

pub write_message-requires : goal.write_message-requires
write_message-requires g c = c.new-packing.ensures.works

pub returns-in-Err : goal.returns-in-Err
returns-in-Err g c = record { written = tt; framed = tt; refused = reason c.in-Err.ensures.refused }

pub returns-in-Ok : goal.returns-in-Ok
returns-in-Ok g c = record {
  written = put_through _ _ _ _ _ _ c.new-packing.ensures.contents (ap (λ w. unpacked_known (g.W.Output.contents w)) c.into_packed.ensures) c.in_default.ensures.written c.in-Ok.ensures.taken;
  framed = c.in_default.ensures.framed;
  refused = tt;
}

pub returns-in-Err-write_pending : goal.returns-in-Err-write_pending
returns-in-Err-write_pending g c = record { written = tt; framed = tt; refused = inl refl }
