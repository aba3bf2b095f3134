mod TokenSlices
