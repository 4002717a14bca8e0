mod OfKinds
