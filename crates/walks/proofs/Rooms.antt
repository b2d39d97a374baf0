-- Buffers whose bytes change and whose lengths stay, and what they give to an update. Assumes nothing.
use Rattle.std.proofs.Common.{◌≡◌, ℕ, List, length, sym, ◌∙◌}
use Rattle.outer.specs.declared.OuterProduct.{OuterProduct}
use Rattle.walks.specs.declared.cases.Kind.{Kind}
use Rattle.walks.specs.Room.{Room, Drawn, Updatable}

module _ {kind : Kind} {z p za plain start : List ℕ} (r : Room kind z p za plain start) where
  pub kept : {z' p' za' plain' start' : List ℕ} → length z' ≡ length z → length p' ≡ length p → length za' ≡ length za
      → length plain' ≡ length plain → length start' ≡ length start → Room kind z' p' za' plain' start'
  kept a b c d e =
      record {
        good = r.good;
        z_sized = a ∙ r.z_sized;
        p_sized = b ∙ r.p_sized;
        za_sized = c ∙ r.za_sized;
        plain_size = d ∙ r.plain_size;
        start_size = e ∙ r.start_size;
      }

  pub updatable : {o : OuterProduct} → Drawn kind o → Updatable kind.vb o z p za
  updatable d =
      record {
        shaped = rw (d.element, d.products) r.good.shape;
        ready = record {
          length_legal = r.good.length_legal;
          z_sized = r.z_sized;
          p_sized = r.p_sized;
          tile = rw d.element d.tile;
          first = d.first;
          second = d.second;
        };
        za_sized = r.za_sized;
      }

  -- the three of ZA have one length
  pub alike : (length plain ≡ length za) × (length start ≡ length za)
  alike = (r.plain_size ∙ sym r.za_sized, r.start_size ∙ sym r.za_sized)
